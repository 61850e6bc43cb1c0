-- The counts of a settled table: the first undecided cell, and the equivocators. Names rise, so an author's two records of one round stand
-- side by side with one another or with a third of that round and author.
-- Assumes nothing.
use Prim.Native.Nat.{ℕ, zero, suc, ◌+◌, ◌-◌, ◌≤◌, ◌<◌}
use mathlib.Core.Path.{◌≡◌, refl, sym, ap, ◌∙◌}
use mathlib.Core.Logic.{◌⊎◌, inl, inr, ⊎_elim, ◌≢◌}
use mathlib.Core.Bool.{Bool, true, false, not, cond, ◌&&◌}
use mathlib.Core.List.{List, [], ◌∷◌, ◌++◌}
use native.Mathlib.Omega.{arith}
use lib.Dec.{ltb, eqb}
use lib.ListN.{length, get_or, set, take, replicate}
use lib.Seq.{ext_get_or}
use Rattle.std.specs.Option.{unwrap_or}
use Rattle.std.specs.List.{position, position_or_len, count_by}
use Rattle.std.proofs.lemmas.List.{length-take-le, get_or-take}
use Rattle.std.proofs.lemmas.List.Sums.{sum_by-append, prefix_len-le-length, fails_before_first, passes_at_first}
use borrow.Author.Tests.{eqb-true, eqb-false, eq-eqb, ne_eqb, ltb-true, ltb-false}
use Rattle.folds.specs.Folds.{◌and◌, ◌or◌, bit, count_to, any_to, first_to, tabulate}
use Rattle.folds.proofs.Tests.{by_test, not_both, failed, and_left, and_right, and_true, or_cases, or_right, not_true, is_not, compare}
use Rattle.folds.proofs.Laws.{first_by, any_witness, any_intro}
use Rattle.folds.proofs.Lists.{get_or_tabulate, tabulate_same, length_tabulate}
use Rattle.rules.specs.declared.Name.{Name}
use Rattle.rules.specs.declared.Vertex.{Vertex}
use Rattle.rules.specs.Record.{at, name_of, below}
use Rattle.rules.specs.Settlement.{equivocates, equivocators}
use Rattle.rules.proofs.Names.{Below, is_below, below_round, below_mark}
use Rattle.rules.proofs.Accepted.{Accepted, author_low, rising}
use Rattle.folds.proofs.Over.{or_last, set_tabulate}
use Rattle.stops.specs.declared.cell.Cell.{Cell}
use Rattle.stops.specs.declared.cell.Cell.TheVariants.{Undecided}
use Rattle.stops.specs.Cells.{says}
use Rattle.rules.specs.Decision.{said}
use Rattle.settlement.specs.Twins.{side}

-- ---- a search from below

-- the first element that passes stands where a list's own search finds it
pub first_position : (p : ℕ → Bool) (xs : List ℕ) → unwrap_or (position p xs) (length xs) ≡ first_to (λ i. p (get_or xs i 0)) (length xs)
first_position p xs =
    found ∙ sym (first_by _ (length xs) (position_or_len p xs) (record {
      within = prefix_len-le-length _ xs;
      before = λ i l. fails_before_first p xs i 0 l;
      hit = λ l. passes_at_first p xs 0 l;
    }))
  where
    found : unwrap_or (position p xs) (length xs) ≡ position_or_len p xs
    found = by_test (ltb (position_or_len p xs) (length xs)) (λ e. rw e) (λ e. rw e (omega (arith, prefix_len-le-length (λ x. not (p x)) xs, ltb-false _ _ e)))

-- a cell says that its slot is undecided where it is 0
pub said_open : (x : ℕ) (y : Cell) → says y ≡ said x → (y ≡ Undecided) → x ≡ 0
said_open zero y e f = refl
said_open (suc zero) y e f = absurd (cc (ap says f))
said_open (suc (suc x)) y e f = absurd (cc (ap says f))

-- ---- two neighbours

-- They are of one round and one author, and that author is a.
abbrev pub pair : List Vertex → ℕ → ℕ → Bool
pair vs a p = side vs p and eqb (at vs (p + 1)).author a

-- of two names of one round the lower one has no higher author
author_rises : (x y : Name) → Below x y → x.round ≡ y.round → x.author ≤ y.author
unfolding below
author_rises x y b r =
    ⊎_elim (λ t. absurd (omega (arith, ltb-true x.round y.round t))) (λ t. later (or_cases _ _ (and_right _ _ t))) (or_cases _ _ (is_below x y b))
  where
    later : (ltb x.author y.author ≡ true) ⊎ (eqb x.author y.author and ltb x.mark y.mark ≡ true) → x.author ≤ y.author
    later (inl h) = omega (arith, ltb-true x.author y.author h)
    later (inr h) = omega (arith, eqb-true x.author y.author (and_left _ _ h))

-- a name between two of one round and author is of that round and author
between : (x y z : Name) → Below x y → Below y z → x.round ≡ z.round → x.author ≡ z.author → (x.round ≡ y.round) × (x.author ≡ y.author)
between x y z b c r a =
    let e : x.round ≡ y.round = omega (arith, below_round x y b, below_round y z c) in
    let f : y.round ≡ z.round = sym e ∙ r in
    (e, omega (arith, author_rises x y b e, author_rises y z c f))

module _ {n : ℕ} {vs : List Vertex} (A : Accepted n vs) where
  -- of two records of one round and author, the one after the first is of that round and author too
  neighbour : (a i j : ℕ) → i < j → j < length vs → (at vs i).round ≡ (at vs j).round → (at vs i).author ≡ a → (at vs j).author ≡ a
      → (i < length vs - 1) × (pair vs a i ≡ true)
  neighbour a i j l lj r ai aj = (omega arith, ⊎_elim next far (eq_or_more))
    where
      eq_or_more : (i + 1 ≡ j) ⊎ (i + 1 < j)
      eq_or_more = by_test (ltb (i + 1) j) (λ t. inr (ltb-true (i + 1) j t)) (λ t. inl (omega (arith, ltb-false (i + 1) j t)))

      both : ((at vs i).round ≡ (at vs (i + 1)).round) × ((at vs i).author ≡ (at vs (i + 1)).author) → pair vs a i ≡ true
      both (e, f) = and_true _ _ (and_true _ _ (eq-eqb _ _ e) (eq-eqb _ _ f)) (eq-eqb _ _ (sym f ∙ ai))

      next : i + 1 ≡ j → pair vs a i ≡ true
      next e = both (r ∙ ap (λ (k : ℕ). (at vs k).round) (sym e), (ai ∙ sym aj) ∙ ap (λ (k : ℕ). (at vs k).author) (sym e))

      far : i + 1 < j → pair vs a i ≡ true
      far h = both (between _ _ _ (rising A i (i + 1) (omega arith) (omega arith)) (rising A (i + 1) j h lj) r (ai ∙ sym aj))

  -- an author has two records in some one round exactly when two neighbours are such
  pub split_is : (a : ℕ) → equivocates vs a ≡ any_to (pair vs a) (length vs - 1)
  unfolding equivocates
  split_is a =
      by_test (equivocates vs a) (λ e. e ∙ sym (up (any_witness _ (length vs) e)))
      (λ e. e ∙ sym (failed _ (λ t. not_both (down (any_witness _ (length vs - 1) t)) e)))
    where
      other : ℕ → ℕ → Bool
      other p q = eqb (at vs q).author a and eqb (at vs q).round (at vs p).round and not (eqb (at vs q).mark (at vs p).mark)

      found : (i : ℕ) × (i < length vs - 1) × (pair vs a i ≡ true) → any_to (pair vs a) (length vs - 1) ≡ true
      found (i, l, t) = any_intro _ (length vs - 1) i l t

      two : (p q : ℕ) → p < length vs → q < length vs → (at vs p).author ≡ a → (at vs q).author ≡ a → (at vs q).round ≡ (at vs p).round
          → (at vs q).mark ≢ (at vs p).mark
          → (p < q) ⊎ ((p ≡ q) ⊎ (q < p)) → any_to (pair vs a) (length vs - 1) ≡ true
      two p q lp lq ap' aq r m (inl h) = let w = neighbour a p q h lq (sym r) ap' aq in found (p, w.0, w.1)
      two p q lp lq ap' aq r m (inr (inl h)) = absurd (m (ap (λ (k : ℕ). (at vs k).mark) (sym h)))
      two p q lp lq ap' aq r m (inr (inr h)) = let w = neighbour a q p h lp r aq ap' in found (q, w.0, w.1)

      up : (p : ℕ) × (p < length vs) × (eqb (at vs p).author a and any_to (other p) (length vs) ≡ true) → any_to (pair vs a) (length vs - 1) ≡ true
      up (p, lp, t) = inner (any_witness _ (length vs) (and_right _ _ t))
        where
          inner : (q : ℕ) × (q < length vs) × (other p q ≡ true) → any_to (pair vs a) (length vs - 1) ≡ true
          inner (q, lq, s) =
              let rest = and_right _ _ s in
              two p q lp lq (eqb-true _ _ (and_left _ _ t)) (eqb-true _ _ (and_left _ _ s)) (eqb-true _ _ (and_left _ _ rest))
              (eqb-false _ _ (not_true _ (and_right _ _ rest))) (compare p q)

      down : (i : ℕ) × (i < length vs - 1) × (pair vs a i ≡ true) → equivocates vs a ≡ true
      down (i, l, t) =
          let s = and_left _ _ t in
          let r : (at vs i).round ≡ (at vs (i + 1)).round = eqb-true _ _ (and_left _ _ s) in
          let w : (at vs i).author ≡ (at vs (i + 1)).author = eqb-true _ _ (and_right _ _ s) in
          let u : (at vs (i + 1)).author ≡ a = eqb-true _ _ (and_right _ _ t) in
          let m : (at vs i).mark < (at vs (i + 1)).mark = below_mark _ _ (rising A i (i + 1) (omega arith) (omega arith)) r w in
          let d : (at vs (i + 1)).mark ≢ (at vs i).mark = λ e. omega (arith, m, e) in
          any_intro _ (length vs) i (omega arith)
          (and_true _ _ (eq-eqb _ _ (w ∙ u))
          (any_intro _ (length vs) (i + 1) (omega arith)
          (and_true _ _ (eq-eqb _ _ u) (and_true _ _ (eq-eqb _ _ (sym r)) (is_not (ne_eqb _ _ d))))))

-- ---- the names of two neighbours, as they are read

pub sides : (vs : List Vertex) (p : ℕ) (x y : Name) → x ≡ name_of (at vs p) → y ≡ name_of (at vs (p + 1)) → eqb x.round y.round && eqb x.author y.author ≡ side vs p
unfolding ◌and◌
sides vs p x y e f = rw (e, f)

-- ---- one flag for each author: whether two neighbours among the first are of that author

abbrev pub splits : List Vertex → ℕ → List Bool
splits vs k = tabulate (λ a. any_to (pair vs a) k) 31

pub splits_start : (vs : List Vertex) → replicate 31 false ≡ splits vs 0
unfolding tabulate any_to
splits_start vs = refl

module _ (vs : List Vertex) (p : ℕ) (l : 0 < p) where
  step : (a : ℕ) → any_to (pair vs a) (p + 1 - 1) ≡ any_to (pair vs a) (p - 1) or pair vs a (p - 1)
  unfolding any_to
  step a = let e : p + 1 - 1 ≡ suc (p - 1) = omega arith in rw e

  -- author a is not theirs
  same_flag : (a : ℕ) → pair vs a (p - 1) ≡ false → any_to (pair vs a) (p - 1) ≡ any_to (pair vs a) (p + 1 - 1)
  same_flag a e = or_last _ ∙ ap (λ b. any_to (pair vs a) (p - 1) or b) (sym e) ∙ sym (step a)

  -- they are of two rounds or authors
  pub splits_apart : side vs (p - 1) ≡ false → splits vs (p - 1) ≡ splits vs (p + 1 - 1)
  splits_apart e = tabulate_same _ _ 31 (λ a h. same_flag a (failed _ (λ t. not_both (and_left _ _ t) e)))

  -- they are of one
  pub splits_more : (x : ℕ) → side vs (p - 1) ≡ true → x ≡ (at vs p).author → x < 31 → set (splits vs (p - 1)) x true ≡ splits vs (p + 1 - 1)
  splits_more x e q h = set_tabulate _ _ 31 x true h here (λ a la d. same_flag a (failed _ (λ t. d (sym (eqb-true _ _ (and_right _ _ t)) ∙ theirs))))
    where
      theirs : (at vs (p - 1 + 1)).author ≡ x
      theirs = let w : p - 1 + 1 ≡ p = omega arith in rw w (sym q)

      here : true ≡ any_to (pair vs x) (p + 1 - 1)
      here = sym (step x ∙ or_right _ _ (and_true _ _ e (eq-eqb _ _ theirs)))

pub splits_end : {n : ℕ} {vs : List Vertex} → Accepted n vs → splits vs (length vs - 1) ≡ tabulate (equivocates vs) 31
splits_end {vs = vs} A = tabulate_same _ _ 31 (λ a h. sym (split_is A a))

-- the author in a record's name
pub author_few : {n : ℕ} {vs : List Vertex} → Accepted n vs → (p : ℕ) (x : Name) → p < length vs → x ≡ name_of (at vs p) → x.author < 31
author_few {n} {vs} A p x l e =
    let is : x.author ≡ (at vs p).author = ap (λ (y : Name). y.author) e in
    omega (arith, is, author_low A p l, A.few)

-- ---- how many they are

take_tabulate : (f : ℕ → Bool) (n k : ℕ) → n ≤ k → take n (tabulate f k) ≡ tabulate f n
take_tabulate f n k l =
    let e : length (tabulate f k) ≡ k = length_tabulate f k in
    let short : length (take n (tabulate f k)) ≡ n = omega (arith, e, length-take-le n (tabulate f k) (omega (arith, e))) in
    ext_get_or false _ _ (short ∙ sym (length_tabulate f n))
    (λ i m. get_or-take n (tabulate f k) i false (omega (arith, short)) ∙ get_or_tabulate f k i false (omega (arith, short))
    ∙ sym (get_or_tabulate f n i false (omega (arith, short))))

count_last : (xs : List Bool) (b : Bool) → count_by (λ x. x) (xs ++ b ∷ []) ≡ count_by (λ x. x) xs + bit b
count_last xs b = sum_by-append (λ x. cond x 1 0) xs (b ∷ []) ∙ ap (λ k. count_by (λ x. x) xs + k) (one b)
  where
    one : (b : Bool) → count_by (λ x. x) (b ∷ []) ≡ bit b
    one true = refl
    one false = refl

count_tabulate : (f : ℕ → Bool) (n : ℕ) → count_by (λ x. x) (tabulate f n) ≡ count_to f n
unfolding count_to tabulate
count_tabulate f zero = refl
count_tabulate f (suc n) = count_last (tabulate f n) (f n) ∙ ap (λ k. k + bit (f n)) (count_tabulate f n)

-- the flags of the first n authors tell how many equivocate
pub set_count : (vs : List Vertex) (n : ℕ) (split : List Bool) → n ≤ 31 → split ≡ tabulate (equivocates vs) 31 → count_by (λ b. b) (take n split) ≡ equivocators n vs
unfolding equivocators
set_count vs n split l e = rw (e, take_tabulate (equivocates vs) n 31 l) (count_tabulate (equivocates vs) n)
