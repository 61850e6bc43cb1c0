-- What a vertex two rounds up certifies of a slot, by the marks that its references back: at most one mark is backed by a quorum, and
-- where the vertex of that mark stands is where the first certified vertex of the slot stands.
-- Assumes nothing.
use Prim.Native.Nat.{ℕ, pred, ◌+◌, ◌-◌, ◌≤◌, ◌<◌, min}
use mathlib.Core.Path.{◌≡◌, sym, ap, ◌∙◌, subst}
use mathlib.Core.Logic.{◌≢◌}
use mathlib.Core.Bool.{true, cond}
use mathlib.Core.List.{List}
use native.Mathlib.Omega.{arith}
use lib.Dec.{leb, ltb, eqb}
use lib.ListN.{length, get_or, get_or-eq_default}
use borrow.Author.Tests.{eqb-true, eqb-false, leb-true, ltb-true, ltb-false, eq-eqb, ne_eqb, le-leb}
use Rattle.folds.specs.Folds.{◌and◌, count_to}
use Rattle.folds.proofs.Tests.{by_test, passed, and_left, and_right, and_true, is_not, both_ways}
use Rattle.folds.proofs.Laws.{First, first_is, count_witness, count_and, count_cut, count_same, first_same}
use Rattle.folds.proofs.Lists.{get_or_tabulate}
use Rattle.rules.specs.declared.Name.{Name}
use Rattle.rules.specs.declared.Vertex.{Vertex}
use Rattle.rules.specs.Authors.{quorum}
use Rattle.rules.specs.Record.{first, records, vertices, no_vertex, at, name_of, entry, refers, entry_name, same_name, find, vertex_of, named}
use Rattle.rules.specs.Support.{references, supports, certifies}
use Rattle.rules.proofs.Names.{name_path, same_name_lem, name_same}
use Rattle.rules.proofs.Records.{find_name}
use Rattle.rules.proofs.Accepted.{Accepted, mark_pos, entry_low, find_at}
use Rattle.rules.proofs.Support.{references_is, is_references}
use Rattle.search.specs.Search.{find_below}
use Rattle.search.proofs.Finds.{find_below_lem}
use Rattle.references.specs.Places.{places_of, HoldsAll}
use Rattle.references.proofs.Found.{reference_at, no_reference}
use Rattle.tally.specs.Marks.{count_mark, enough_of}
use Rattle.tally.proofs.Marks.{enough_is, enough_some}
use Rattle.decide.specs.Certify.{backs, certified_at}

-- the search by halves of the code
pub found_is : {n : ℕ} (t : List ℕ) (x : Name) (p : ℕ) → Accepted n (vertices first t) → p ≡ find_below t (min (records first t) (records first t)) x
    → p ≡ find (vertices first t) x
found_is {n} t x p A e =
    let q : min (records first t) (records first t) ≡ records first t = omega arith in
    e ∙ rw q (find_below_lem n t x A)

-- a name that stands nowhere has no entries
pub none_entry : (vs : List Vertex) (x : Name) (i : ℕ) → length vs ≤ find vs x → entry (vertex_of vs x) i ≡ 0
unfolding vertex_of
none_entry vs x i l = rw (get_or-eq_default vs no_vertex l)

-- where the certified vertex stands, as what it means
pub certified_first : (n : ℕ) (vs : List Vertex) (round leader w : ℕ)
    → First (λ p. (eqb (at vs p).round round and eqb (at vs p).author leader) and certifies n vs (at vs w) (at vs p))
    (length vs) (certified_at n vs round leader w)
unfolding certified_at
certified_first n vs round leader w = first_is _ (length vs)

module _ {n : ℕ} {vs : List Vertex} (A : Accepted n vs) where
  -- no name with mark 0 stands anywhere
  pub no_mark : (x : Name) → x.mark ≡ 0 → length vs ≤ find vs x
  no_mark x z = by_test (ltb (find vs x) (length vs)) (λ e. absurd (there (ltb-true _ _ e))) (λ e. ltb-false _ _ e)
    where
      there : find vs x < length vs → ⊥
      there l = mark_pos A (find vs x) l (ap (λ y. y.mark) (find_name vs x l) ∙ z)

  -- a vertex that has an entry is found by its name
  pub filled_found : (x : Name) (i : ℕ) → entry (vertex_of vs x) i ≢ 0 → name_of (vertex_of vs x) ≡ x
  unfolding vertex_of
  filled_found x i d = by_test (ltb (find vs x) (length vs)) (λ e. find_name vs x (ltb-true _ _ e)) (λ e. absurd (d (none_entry vs x i (ltb-false _ _ e))))

  -- ---- the marks that the references of a vertex back

  module _ (w leader : ℕ) (lw : w < length vs) where
    -- the mark that reference i backs
    abbrev backed : ℕ → ℕ
    backed i = entry (vertex_of vs (entry_name (at vs w) i)) leader

    abbrev marks : List ℕ
    marks = backs vs w leader

    -- an entry that is no reference backs none
    pub backs_none : (i : ℕ) → entry (at vs w) i ≡ 0 → backed i ≡ 0
    backs_none i z = none_entry vs (entry_name (at vs w) i) leader (no_mark (entry_name (at vs w) i) z)

    backs_low : (i : ℕ) → i < 31 → get_or marks i 0 ≡ backed i
    unfolding backs
    backs_low i l = get_or_tabulate backed 31 i 0 l

    past_none : (i : ℕ) → n ≤ i → backed i ≡ 0
    past_none i l = backs_none i (eqb-true _ _ (passed _ (λ f. absurd (omega (arith, entry_low A w i lw (eqb-false _ _ f))))))

    backs_past : (i : ℕ) → n ≤ i → i < 31 → get_or marks i 0 ≡ 0
    backs_past i l h = backs_low i h ∙ past_none i l

    -- how many back a mark
    pub backs_count : (mark : ℕ) → mark ≢ 0 → count_mark marks mark ≡ count_to (λ i. eqb (backed i) mark) n
    unfolding count_mark
    backs_count mark d =
        let few : n ≤ 31 = A.few in
        let width : n + (31 - n) ≡ 31 = omega arith in
        let cut = count_cut (λ i. eqb (get_or marks i 0) mark) n (31 - n) (λ i l h. ne_eqb _ _ (λ e. d (sym e ∙ backs_past i l (omega arith)))) in
        subst (λ k. count_to (λ i. eqb (get_or marks i 0) mark) k ≡ count_to (λ i. eqb (get_or marks i 0) mark) n) width cut
        ∙ count_same (λ i. eqb (get_or marks i 0) mark) (λ i. eqb (backed i) mark) n (λ i l. ap (λ m. eqb m mark) (backs_low i (omega arith)))

    -- at most one mark is backed by a quorum
    pub one_mark : (m m' : ℕ) → m ≢ 0 → m' ≢ 0 → quorum n ≤ count_mark marks m → quorum n ≤ count_mark marks m' → m ≡ m'
    one_mark m m' d d' h h' = shared (count_witness (λ i. eqb (backed i) m and eqb (backed i) m') n some)
      where
        some : 0 < count_to (λ i. eqb (backed i) m and eqb (backed i) m') n
        some = omega (arith, A.count, backs_count m d, backs_count m' d', count_and (λ i. eqb (backed i) m) (λ i. eqb (backed i) m') n)

        shared : (i : ℕ) × (i < n) × (eqb (backed i) m and eqb (backed i) m' ≡ true) → m ≡ m'
        shared (i, l, t) = sym (eqb-true _ _ (and_left _ _ t)) ∙ eqb-true _ _ (and_right _ _ t)

    -- some reference backs a mark that a quorum backs
    some_mark : (m : ℕ) → m ≢ 0 → quorum n ≤ count_mark marks m → enough_of marks (quorum n) ≡ m
    some_mark m d h = backer (count_witness (λ i. eqb (backed i) m) n (omega (arith, backs_count m d)))
      where
        backer : (i : ℕ) × (i < n) × (eqb (backed i) m ≡ true) → enough_of marks (quorum n) ≡ m
        backer (i, l, t) =
            let is : get_or marks i 0 ≡ m = backs_low i (omega (arith, A.few)) ∙ eqb-true _ _ t in
            let found : enough_of marks (quorum n) ≢ 0 =
            enough_some marks (quorum n) i (omega (arith, A.few)) (λ z. d (sym is ∙ z)) (subst (λ k. quorum n ≤ count_mark marks k) (sym is) h) in
            one_mark (enough_of marks (quorum n)) m found d (enough_is marks (quorum n) found) h

    -- ---- certificates by marks

    abbrev v : Vertex
    v = at vs w

    -- a reference backs the mark of a vertex exactly when it is to a supporter
    back_supports : (b : Vertex) (i : ℕ) → b.author ≡ leader → v.round ≡ b.round + 2 → b.mark ≢ 0
        → refers v i and supports (vertex_of vs (entry_name v i)) b ≡ eqb (backed i) b.mark
    unfolding supports
    back_supports b i a e d = both_ways _ _ (λ t. there (and_right _ _ t)) (λ t. back (eqb-true _ _ t))
      where
        there : references (vertex_of vs (entry_name v i)) (name_of b) ≡ true → eqb (backed i) b.mark ≡ true
        there t = rw (← a) (eq-eqb _ _ (references_is _ _ t).names)

        back : backed i ≡ b.mark → refers v i and references (vertex_of vs (entry_name v i)) (name_of b) ≡ true
        back h =
            let filled : backed i ≢ 0 = λ z. d (sym h ∙ z) in
            let level : pred v.round ≡ b.round + 1 = omega (arith, e) in
            let up : (vertex_of vs (entry_name v i)).round ≡ b.round + 1 = ap (λ y. y.round) (filled_found (entry_name v i) leader filled) ∙ level in
            let marked : entry v i ≢ 0 = λ z. filled (backs_none i z) in
            and_true _ _ (is_not (ne_eqb _ _ marked)) (is_references _ (name_of b) (record { one_up = up; marked = d; names = rw a h }))

    pub certifies_marks : (b : Vertex) → b.author ≡ leader → v.round ≡ b.round + 2 → b.mark ≢ 0
        → certifies n vs v b ≡ leb (quorum n) (count_mark marks b.mark)
    unfolding certifies ◌and◌
    certifies_marks b a e d = rw (eq-eqb _ _ e, backs_count b.mark d) (ap (leb (quorum n)) (count_same _ _ n (λ i l. back_supports b i a e d)))

    -- of a slot two rounds below

    module _ (round : ℕ) (e : v.round ≡ round + 2) where
      certifies_slot : (p : ℕ) → p < length vs → (at vs p).round ≡ round → (at vs p).author ≡ leader
          → certifies n vs v (at vs p) ≡ leb (quorum n) (count_mark marks (at vs p).mark)
      certifies_slot p l r a = certifies_marks (at vs p) a (rw r e) (mark_pos A p l)

      -- the vertex of the mark that a quorum backs is the vertex of the slot that is certified
      pub certified_is : find vs (named round leader (enough_of marks (quorum n))) ≡ certified_at n vs round leader w
      unfolding find certified_at
      certified_is = first_same _ _ (length vs) (λ p l. both_ways _ _ (λ t. there p l (same_name_lem _ _ t)) (λ t. back p l t))
        where
          m : ℕ
          m = enough_of marks (quorum n)

          there : (p : ℕ) → p < length vs → name_of (at vs p) ≡ named round leader m
              → (eqb (at vs p).round round and eqb (at vs p).author leader) and certifies n vs v (at vs p) ≡ true
          there p l q =
              let r : (at vs p).round ≡ round = ap (λ x. x.round) q in
              let a : (at vs p).author ≡ leader = ap (λ x. x.author) q in
              let k : (at vs p).mark ≡ m = ap (λ x. x.mark) q in
              let d : m ≢ 0 = λ z. mark_pos A p l (k ∙ z) in
              and_true _ _ (and_true _ _ (eq-eqb _ _ r) (eq-eqb _ _ a)) (certifies_slot p l r a ∙ rw k (le-leb _ _ (enough_is marks (quorum n) d)))

          back : (p : ℕ) → p < length vs → (eqb (at vs p).round round and eqb (at vs p).author leader) and certifies n vs v (at vs p) ≡ true
              → same_name (name_of (at vs p)) (named round leader m) ≡ true
          back p l t =
              let r : (at vs p).round ≡ round = eqb-true _ _ (and_left _ _ (and_left _ _ t)) in
              let a : (at vs p).author ≡ leader = eqb-true _ _ (and_right _ _ (and_left _ _ t)) in
              let h : quorum n ≤ count_mark marks (at vs p).mark = leb-true _ _ (sym (certifies_slot p l r a) ∙ and_right _ _ t) in
              name_same _ _ (name_path _ _ r a (sym (some_mark (at vs p).mark (mark_pos A p l) h)))

      -- with no such mark none is certified
      pub certified_none : enough_of marks (quorum n) ≡ 0 → length vs ≡ certified_at n vs round leader w
      certified_none z = omega (arith, certified_is, (certified_first n vs round leader w).within, no_mark (named round leader (enough_of marks (quorum n))) z)

      -- of a vertex of the slot, it is the one found exactly when it is certified
      pub certified_test : (p : ℕ) → p < length vs → (at vs p).round ≡ round → (at vs p).author ≡ leader
          → eqb (certified_at n vs round leader w) p ≡ certifies n vs v (at vs p)
      certified_test p l r a = both_ways _ _ (λ t. there (eqb-true _ _ t)) (λ t. eq-eqb _ _ (back t))
        where
          there : certified_at n vs round leader w ≡ p → certifies n vs v (at vs p) ≡ true
          there q =
              let hit = (certified_first n vs round leader w).hit (omega arith) in
              and_right _ _ (subst (λ j. (eqb (at vs j).round round and eqb (at vs j).author leader) and certifies n vs v (at vs j) ≡ true) q hit)

          back : certifies n vs v (at vs p) ≡ true → certified_at n vs round leader w ≡ p
          back t =
              let h : quorum n ≤ count_mark marks (at vs p).mark = leb-true _ _ (sym (certifies_slot p l r a) ∙ t) in
              let m = some_mark (at vs p).mark (mark_pos A p l) h in
              sym certified_is ∙ ap (find vs) (name_path (named round leader (enough_of marks (quorum n))) (name_of (at vs p)) (sym r) (sym a) m) ∙ find_at A p l

-- what is read where the references of the vertex at w stand, among the first k records
module _ {n : ℕ} (t : List ℕ) (A : Accepted n (vertices first t)) (w k leader : ℕ) (lw : w < length (vertices first t))
    (H : HoldsAll (vertices first t) w k) where
  pub backed_at : (i q b : ℕ) → i < 31 → q ≡ get_or (places_of n t w k) i 0 → b ≡ cond (ltb q k) (entry (at (vertices first t) q) leader) 0
      → b ≡ entry (vertex_of (vertices first t) (entry_name (at (vertices first t) w) i)) leader
  unfolding vertex_of
  backed_at i q b li is e =
      by_test (ltb q k) (λ h. e ∙ rw h (low (rw is at (ltb-true q k h))))
      (λ h. e ∙ rw h (sym (backs_none A w leader lw i (no_reference t A w k lw H i li (rw is at (ltb-false q k h))))))
    where
      low : get_or (places_of n t w k) i 0 < k
          → entry (at (vertices first t) q) leader ≡ entry (vertex_of (vertices first t) (entry_name (at (vertices first t) w) i)) leader
      low h = rw (is, (reference_at t A w k lw H i li h).place)
