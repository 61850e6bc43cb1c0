-- What a table that passes the check obeys: names rise strictly, every reference stands earlier, at least 2f+1 references above round 1,
-- and a name finds its position.
-- Assumes nothing.
use Prim.Native.Nat.{ℕ, zero, suc, ◌+◌, ◌-◌, ◌*◌, ◌%◌, ◌≤◌, ◌<◌}
use mathlib.Core.Path.{◌≡◌, refl, sym, ap, ◌∙◌, subst}
use mathlib.Core.Logic.{⊎_elim, ◌≢◌}
use mathlib.Core.Bool.{true, false}
use mathlib.Core.List.{List}
use native.Mathlib.Omega.{arith}
use native.Mathlib.Nat.{eq-or-lt_of_le, le_of_suc-le-suc, not-suc-le-zero}
use lib.Dec.{leb, ltb, eqb}
use lib.ListN.{length, get_or-eq_default}
use borrow.Author.Tests.{eqb-true, eqb-false, eq-eqb, ne_eqb, leb-true, leb-false, ltb-true, ltb-false, lt-ltb}
use Rattle.folds.specs.Folds.{◌and◌, count_to, any_to}
use Rattle.folds.proofs.Tests.{by_test, not_both, failed, passed, and_left, and_right, and_true, and_false, or_neither, not_true, not_false, is_not}
use Rattle.folds.proofs.Laws.{first_unique, any_none, count_cut}
use Rattle.rules.specs.declared.Vertex.{Vertex}
use Rattle.rules.specs.Refusals.{passed as passes, each_to}
use Rattle.rules.specs.Authors.{is_count, faults, quorum}
use Rattle.rules.specs.Record.{Edition, record_at, records, vertices, at, entry, refers, entry_name, name_of, find, vertex_of}
use Rattle.rules.specs.Check.{padding_set, round_zero, mark_zero, author_past, not_above, entries_wrong, not_earlier, check_record, check_table, check}
use Rattle.rules.proofs.Names.{same_name_lem, name_same, Below, below_is, below_trans, below_irrefl}
use Rattle.rules.proofs.Records.{vertices_length, vertices_at, decode_entries, find_first, find_name}
use Rattle.rules.proofs.Refusals.{when_passed, then_both, each_passed}

-- The fields of a vertex pass 5, 18, 19 and 20.
pub record Fields (n : ℕ) (v : Vertex) : Type 0 where
  pub padding : padding_set v ≡ false
  pub round : round_zero v ≡ false
  pub mark : mark_zero v ≡ false
  pub author : author_past n v ≡ false

-- The record at p passes what follows 4, and has 31 entries. What check 4 says is of its bytes.
pub record Fine (n : ℕ) (vs : List Vertex) (p : ℕ) : Type 0 where
  pub fields : Fields n (at vs p)
  pub above : not_above vs p ≡ false
  pub entries : entries_wrong n (at vs p) ≡ false
  pub found : not_earlier vs p ≡ false
  pub width : length (at vs p).refs ≡ 31

pub record Accepted (n : ℕ) (vs : List Vertex) : Type 0 where
  pub count : n ≡ 3 * faults n + 1
  pub few : n ≤ 31
  pub each : (p : ℕ) → p < length vs → Fine n vs p

pub record_passed : (E : Edition) (n : ℕ) (t : List ℕ) (p : ℕ) → p < records E t → check_record E n t (vertices E t) p ≡ passes → Fine n (vertices E t) p
unfolding check_record
record_passed E n t p l e =
    let e4 = then_both _ _ e in
    let e5 = then_both _ _ e4.1 in
    let e18 = then_both _ _ e5.1 in
    let e19 = then_both _ _ e18.1 in
    let e20 = then_both _ _ e19.1 in
    let e6 = then_both _ _ e20.1 in
    let e7 = then_both _ _ e6.1 in
    record {
      fields = record { padding = when_passed _ _ _ e5.0; round = when_passed _ _ _ e18.0; mark = when_passed _ _ _ e19.0; author = when_passed _ _ _ e20.0 };
      above = when_passed _ _ _ e6.0;
      entries = when_passed _ _ _ e7.0;
      found = when_passed _ _ _ e7.1;
      width = ap (λ v. length v.refs) (vertices_at E t p l) ∙ decode_entries E (record_at E t p);
    }

-- What one of the ten counts is.
pub record IsCount (n : ℕ) : Type 0 where
  pub whole : n ≡ 3 * faults n + 1
  pub least : 4 ≤ n
  pub most : n ≤ 31

pub count_is : (n : ℕ) → is_count n ≡ true → IsCount n
unfolding is_count
count_is n e =
    let rest = and_right _ _ e in
    record { whole = omega (arith, eqb-true (n % 3) 1 (and_right _ _ rest)); least = leb-true 4 n (and_left _ _ e); most = leb-true n 31 (and_left _ _ rest) }

-- What a table that passes has passed.
pub record Passed (E : Edition) (n : ℕ) (t : List ℕ) : Type 0 where
  pub count : is_count n ≡ true
  pub few : records E t ≤ 4096
  pub each : each_to (check_record E n t (vertices E t)) (records E t) ≡ passes

pub check_passed : (E : Edition) (n : ℕ) (t : List ℕ) → check E n t ≡ passes → Passed E n t
unfolding check check_table
check_passed E n t e =
    let e1 = then_both _ _ e in
    let e2 = then_both _ _ e1.1 in
    let e3 = then_both _ _ e2.1 in
    record { count = not_false _ (when_passed _ _ _ e1.0); few = ltb-false _ _ (when_passed _ _ _ e3.0); each = e3.1 }

pub accepted : (E : Edition) (n : ℕ) (t : List ℕ) → check E n t ≡ passes → Accepted n (vertices E t)
accepted E n t e =
    let C = check_passed E n t e in
    let count = count_is n C.count in
    record {
      count = count.whole;
      few = count.most;
      each = λ p l. let l' : p < records E t = rw (← vertices_length E t) l in record_passed E n t p l' (each_passed _ (records E t) C.each p l');
    }

-- ---- names rise as far as check 6 is passed

rises_to : (vs : List Vertex) (k : ℕ) → ((i : ℕ) → i < k → not_above vs i ≡ false) → (p : ℕ) → suc p < k → Below (name_of (at vs p)) (name_of (at vs (suc p)))
unfolding not_above
rises_to vs k h p l = below_is _ _ (not_false _ (and_false _ _ (h (suc p) l) (lt-ltb 0 (suc p) (omega arith))))

pub rising_to : (vs : List Vertex) (k : ℕ) → ((i : ℕ) → i < k → not_above vs i ≡ false) → (p q : ℕ) → p < q → q < k → Below (name_of (at vs p)) (name_of (at vs q))
rising_to vs k h p zero l lq = absurd (not-suc-le-zero l)
rising_to vs k h p (suc q) l lq =
    ⊎_elim
    (λ e. subst (λ (j : ℕ). Below (name_of (at vs j)) (name_of (at vs (suc q)))) (sym e) (rises_to vs k h q lq))
    (λ l'. below_trans _ _ _ (rising_to vs k h p q l' (omega arith)) (rises_to vs k h q lq))
    (eq-or-lt_of_le (le_of_suc-le-suc l))

-- ---- what the tests of one record say

module _ {n : ℕ} {vs : List Vertex} (A : Accepted n vs) where
  pub round_pos : (p : ℕ) → p < length vs → (at vs p).round ≢ 0
  unfolding round_zero
  round_pos p l = eqb-false _ _ (A.each p l).fields.round

  pub mark_pos : (p : ℕ) → p < length vs → (at vs p).mark ≢ 0
  unfolding mark_zero
  mark_pos p l = eqb-false _ _ (A.each p l).fields.mark

  pub author_low : (p : ℕ) → p < length vs → (at vs p).author < n
  unfolding author_past
  author_low p l = leb-false _ _ (A.each p l).fields.author

  -- a non-zero entry is one of the n
  pub entry_low : (p i : ℕ) → p < length vs → entry (at vs p) i ≢ 0 → i < n
  unfolding entries_wrong
  entry_low p i l nz =
      by_test (ltb i 31) within
      (λ t. absurd (nz (get_or-eq_default (at vs p).refs 0 (omega (arith, ltb-false i 31 t, (A.each p l).width)))))
    where
      none : any_to (λ i. leb n i and refers (at vs p) i) 31 ≡ false
      none = (or_neither _ _ (or_neither _ _ (A.each p l).entries).1).0

      within : ltb i 31 ≡ true → i < n
      within t = leb-false n i (failed _ (λ h. not_both (and_true _ _ h (is_not (ne_eqb _ _ nz))) (any_none _ 31 none i (ltb-true i 31 t))))

  -- it names an earlier record
  pub earlier : (p i : ℕ) → p < length vs → entry (at vs p) i ≢ 0 → find vs (entry_name (at vs p) i) < p
  unfolding not_earlier
  earlier p i l nz =
      let li : i < 31 = omega (arith, entry_low p i l nz, A.few) in
      leb-false _ _ (and_false _ _ (any_none _ 31 (A.each p l).found i li) (is_not (ne_eqb _ _ nz)))

  -- there are at least 2f+1 of them above round 1
  pub enough : (p : ℕ) → p < length vs → 1 < (at vs p).round → quorum n ≤ count_to (refers (at vs p)) n
  unfolding entries_wrong
  enough p l h =
      let r = refers (at vs p) in
      let fits = (or_neither _ _ (or_neither _ _ (A.each p l).entries).1).1 in
      let many : quorum n ≤ count_to r 31 = ltb-false _ _ (and_false _ _ fits (lt-ltb _ _ h)) in
      let width : n + (31 - n) ≡ 31 = omega (arith, A.few) in
      let same : count_to r 31 ≡ count_to r n = subst (λ k. count_to r k ≡ count_to r n) width (count_cut r n (31 - n) past) in
      omega (arith, many, same)
    where
      past : (i : ℕ) → n ≤ i → i < n + (31 - n) → refers (at vs p) i ≡ false
      past i l' l'' = failed _ (λ t. absurd (omega (arith, entry_low p i l (eqb-false _ _ (not_true _ t)))))

  -- in round 1 there is none
  pub first_round : (p i : ℕ) → p < length vs → (at vs p).round ≡ 1 → entry (at vs p) i ≡ 0
  unfolding entries_wrong
  first_round p i l e = eqb-true _ _ (passed _ (λ f. not_both (is_not f) (none f)))
    where
      none : eqb (entry (at vs p) i) 0 ≡ false → refers (at vs p) i ≡ false
      none f =
          let li : i < 31 = omega (arith, entry_low p i l (eqb-false _ _ f), A.few) in
          any_none _ 31 (and_false _ _ (or_neither _ _ (A.each p l).entries).0 (eq-eqb _ _ e)) i li

  -- ---- names and positions

  -- names rise strictly
  pub rising : (p q : ℕ) → p < q → q < length vs → Below (name_of (at vs p)) (name_of (at vs q))
  rising p q h l = rising_to vs (length vs) (λ i li. (A.each i li).above) p q h l

  -- find by name gives the position
  pub find_at : (p : ℕ) → p < length vs → find vs (name_of (at vs p)) ≡ p
  find_at p l = first_unique _ (length vs) _ p (find_first vs (name_of (at vs p))) (record {
    within = omega arith;
    before = λ i h. failed _ (λ t. below_irrefl _ _ (same_name_lem _ _ t) (rising i p h l));
    hit = λ _. name_same _ _ refl;
  })

  pub vertex_of_at : (p : ℕ) → p < length vs → vertex_of vs (name_of (at vs p)) ≡ at vs p
  unfolding vertex_of
  vertex_of_at p l = ap (at vs) (find_at p l)

  -- two positions of one name are one
  pub position_unique : (p q : ℕ) → p < length vs → q < length vs → name_of (at vs p) ≡ name_of (at vs q) → p ≡ q
  position_unique p q lp lq e = sym (find_at p lp) ∙ ap (find vs) e ∙ find_at q lq

  -- ---- rounds

  -- the vertex that a non-zero entry names
  pub entry_vertex : (p i : ℕ) → p < length vs → entry (at vs p) i ≢ 0 → name_of (at vs (find vs (entry_name (at vs p) i))) ≡ entry_name (at vs p) i
  entry_vertex p i l nz = find_name vs _ (omega (arith, earlier p i l nz))
