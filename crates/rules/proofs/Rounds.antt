-- The counting law. Below the round of any accepted record each round has records of at least 2f+1 authors, all earlier in the table;
-- so the record at p has 2f+1 records before it for each round below its own, and a table has at most `most_rounds` rounds.
-- Assumes nothing.
use Prim.Native.Nat.{ℕ, zero, suc, pred, ◌+◌, ◌-◌, ◌*◌, ◌/◌, ◌≤◌, ◌<◌, zero-le}
use mathlib.Core.Path.{◌≡◌, refl, sym, ap, ◌∙◌}
use mathlib.Core.Logic.{⊎_elim, ◌≢◌}
use mathlib.Core.Bool.{true}
use mathlib.Core.List.{List, [], ◌∷◌, map}
use native.Mathlib.Omega.{arith}
use native.Mathlib.Nat.{eq-or-lt_of_le, suc-mul, le-mul_of_pos_right, le-div_iff_mul-le, div-le_of_le-mul}
use lib.Dec.{ltb}
use lib.ListN.{length, get_or-eq_default}
use borrow.Author.Tests.{eqb-false, ltb-true, ltb-false}
use Rattle.folds.specs.Folds.{count_to}
use Rattle.folds.specs.Many.{Many}
use Rattle.folds.proofs.Tests.{by_test, not_true}
use Rattle.folds.proofs.Laws.{count_places}
use Rattle.folds.proofs.Quorum.{some_of, many_map}
use Rattle.rules.specs.declared.Vertex.{Vertex}
use Rattle.rules.specs.Authors.{is_count, quorum}
use Rattle.rules.specs.Record.{Edition, vertices, no_vertex, at, entry, refers, entry_name, name_of, find}
use Rattle.rules.specs.Refusals.{passed}
use Rattle.rules.specs.Check.{check}
use Rattle.rules.specs.Rounds.{most_rounds}
use Rattle.rules.specs.Decide.{highest}
use Rattle.rules.proofs.Names.{Below, below_trans, below_irrefl, named_below}
use Rattle.rules.proofs.Records.{vertices_length}
use Rattle.rules.proofs.Accepted.{Accepted, count_is, check_passed, accepted, round_pos, enough, earlier, rising, entry_vertex}

-- what is so of the round of every record, and of 0, is so of the highest round
highest_has : (vs : List Vertex) (P : ℕ → Type 0) → P 0 → ((p : ℕ) → p < length vs → P (at vs p).round) → P (highest vs)
unfolding highest
highest_has vs P none each = by_test (ltb (pred (length vs)) (length vs)) (λ e. each _ (ltb-true _ _ e)) (λ e. rw (past (ltb-false _ _ e)) none)
  where
    past : length vs ≤ pred (length vs) → (at vs (pred (length vs))).round ≡ 0
    past l = ap (λ (v : Vertex). v.round) (get_or-eq_default vs no_vertex l)

module _ {n : ℕ} {vs : List Vertex} (A : Accepted n vs) where
  -- ---- who has a record in a round below

  -- author a has a record of round r before position p
  abbrev pub HasBefore : (p r a : ℕ) → Type 0
  HasBefore p r a = (q : ℕ) × (q < p) × ((at vs q).round ≡ r) × ((at vs q).author ≡ a)

  -- what a non-zero entry names is in the round before
  entry_round : (p r i : ℕ) → p < length vs → (at vs p).round ≡ r + 1 → entry (at vs p) i ≢ 0 → (at vs (find vs (entry_name (at vs p) i))).round ≡ r
  entry_round p r i l e nz = let level : pred (at vs p).round ≡ r = omega (arith, e) in ap (λ x. x.round) (entry_vertex A p i l nz) ∙ level

  one_below : (p r : ℕ) → p < length vs → 0 < r → (at vs p).round ≡ r + 1 → Many n (quorum n) (HasBefore p r)
  one_below p r l pos e = record {
    who = refers (at vs p);
    enough = enough A p l (omega arith);
    have = λ i li t. let nz = eqb-false _ _ (not_true _ t) in
        (find vs (entry_name (at vs p) i), earlier A p i l nz, entry_round p r i l e nz, ap (λ x. x.author) (entry_vertex A p i l nz));
  }

  down_to : (k p r : ℕ) → p < length vs → 0 < r → (at vs p).round ≡ r + k + 1 → Many n (quorum n) (HasBefore p r)
  down_to zero p r l pos e = one_below p r l pos (omega arith)
  down_to (suc k) p r l pos e =
      let w = some_of n (quorum n) (HasBefore p (r + k + 1)) (omega arith) (one_below p (r + k + 1) l (omega arith) (omega arith)) in
      many_map n (quorum n) (HasBefore w.2.0 r) (HasBefore p r) (λ a la b. (b.0, omega (arith, b.1, w.2.1), b.2, b.3))
      (down_to k w.2.0 r (omega (arith, w.2.1)) pos w.2.2)

  -- below the round of a record each round has records of at least 2f+1 authors, all earlier
  pub each_below : (p r : ℕ) → p < length vs → 0 < r → r < (at vs p).round → Many n (quorum n) (HasBefore p r)
  each_below p r l pos h = down_to ((at vs p).round - r - 1) p r l pos (omega arith)

  -- ---- how many they are

  -- of two records the one with the lower name stands first
  lower_first : (p q : ℕ) → p < length vs → Below (name_of (at vs p)) (name_of (at vs q)) → p < q
  lower_first p q l b =
      by_test (ltb p q) (λ e. ltb-true p q e) (λ e. absurd (⊎_elim (λ h. below_irrefl _ _ (ap (λ k. name_of (at vs k)) (sym h)) b)
      (λ h. below_irrefl _ _ refl (below_trans _ _ _ b (rising A q p h l))) (eq-or-lt_of_le (ltb-false p q e))))

  -- what the entries of a record name stands in the order of its authors
  names_rise : (p i j : ℕ) → p < length vs → i < j → entry (at vs p) i ≢ 0 → entry (at vs p) j ≢ 0
      → find vs (entry_name (at vs p) i) < find vs (entry_name (at vs p) j)
  names_rise p i j l h ni nj =
      let b : Below (entry_name (at vs p) i) (entry_name (at vs p) j) = named_below (pred (at vs p).round) i j (entry (at vs p) i) (entry (at vs p) j) h in
      lower_first _ _ (omega (arith, earlier A p i l ni)) (rw (entry_vertex A p i l ni, entry_vertex A p j l nj) b)

  -- 2f+1 for each of the k rounds below stand before the record
  before_count : (k p : ℕ) → p < length vs → (at vs p).round ≡ k + 1 → k * quorum n ≤ p
  before_count zero p l e = omega arith
  before_count (suc k) p l e =
      let v = at vs p in
      let many : quorum n ≤ count_to (refers v) n = enough A p l (omega arith) in
      let places : count_to (refers v) n ≤ p - k * quorum n =
      count_places (refers v) (λ i. find vs (entry_name v i)) (k * quorum n) p n
      (λ i li t. let nz = eqb-false _ _ (not_true _ t) in
      let before = earlier A p i l nz in
      (before_count k (find vs (entry_name v i)) (omega (arith, before)) (entry_round p (k + 1) i l (omega arith) nz), before))
      (λ i j li lj ti tj. names_rise p i j l li (eqb-false _ _ (not_true _ ti)) (eqb-false _ _ (not_true _ tj))) in
      omega (arith, suc-mul k (quorum n))

  -- the record at p has 2f+1 records before it for each round below its own
  pub rounds_below : (p : ℕ) → p < length vs → ((at vs p).round - 1) * quorum n ≤ p
  rounds_below p l = before_count ((at vs p).round - 1) p l (omega (arith, round_pos A p l))

  -- so there are no more rounds than records, and of 4,096 records none is in a round above `most_rounds`
  pub rounds_few : highest vs ≤ length vs
  rounds_few = highest_has vs (λ r. r ≤ length vs) zero-le (λ p l.
      let h : (at vs p).round - 1 ≤ ((at vs p).round - 1) * quorum n = le-mul_of_pos_right _ (omega arith) in
      omega (arith, rounds_below p l))

  pub round_most : length vs ≤ 4096 → (p : ℕ) → p < length vs → (at vs p).round ≤ most_rounds n
  round_most few p l =
      let h : (at vs p).round - 1 ≤ (4096 - 1) / quorum n =
      (le-div_iff_mul-le {k = quorum n} {x = (at vs p).round - 1} {y = 4096 - 1} (omega arith)).1 (omega (arith, rounds_below p l)) in
      omega arith

-- ---- the bound for each count, and for all

-- for 4, 7, .. 31 authors
pub most_each : map most_rounds (4 ∷ 7 ∷ 10 ∷ 13 ∷ 16 ∷ 19 ∷ 22 ∷ 25 ∷ 28 ∷ 31 ∷ []) ≡ 1366 ∷ 820 ∷ 586 ∷ 456 ∷ 373 ∷ 316 ∷ 274 ∷ 241 ∷ 216 ∷ 196 ∷ []
most_each = refl

-- none is above that of four
pub most_rounds_lem : (n : ℕ) → is_count n ≡ true → most_rounds n ≤ 1366
most_rounds_lem n c =
    let h : (4096 - 1) / quorum n ≤ 1365 = div-le_of_le-mul (quorum n) {m = 4096 - 1} {n = 1365} (omega (arith, (count_is n c).least)) in
    omega arith

-- every table that passes
pub table_rounds : (E : Edition) (n : ℕ) (t : List ℕ) → check E n t ≡ passed → highest (vertices E t) ≤ most_rounds n
table_rounds E n t ok =
    highest_has (vertices E t) (λ r. r ≤ most_rounds n) zero-le (round_most (accepted E n t ok) (rw (vertices_length E t) (check_passed E n t ok).few))
