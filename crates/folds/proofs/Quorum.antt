-- Quorums: two sets of 2f + 1 out of 3f + 1 authors share one who is none of the f faulty ones.
-- Said of any count n with n ≡ 3f + 1, and of some author, not only of numbers of authors.
-- Assumes nothing.
use Prim.Native.Nat.{ℕ, ◌+◌, ◌*◌, ◌≤◌, ◌<◌}
use mathlib.Core.Path.{◌≡◌}
use mathlib.Core.Bool.{Bool, true, false, not}
use native.Mathlib.Omega.{arith}
use Rattle.folds.specs.Folds.{◌and◌, count_to}
use Rattle.folds.specs.Many.{Many}
use Rattle.folds.proofs.Tests.{and_left, and_right, not_true}
use Rattle.folds.proofs.Laws.{count_witness, count_and, count_minus, count_mono}

-- an author who is not faulty and of whom both hold
pub record Shared (n : ℕ) (P Q : ℕ → Type 0) (faulty : ℕ → Bool) : Type 0 where
  pub who : ℕ
  pub low : who < n
  pub honest : faulty who ≡ false
  pub left : P who
  pub right : Q who

pub meet : (n f : ℕ) (P Q : ℕ → Type 0) (faulty : ℕ → Bool) → n ≡ 3 * f + 1 → count_to faulty n ≤ f → Many n (2 * f + 1) P → Many n (2 * f + 1) Q
    → Shared n P Q faulty
meet n f P Q faulty is few k l =
    let both : ℕ → Bool = λ i. k.who i and l.who i in
    shared (count_witness (λ i. both i and not (faulty i)) n (omega (arith, count_and k.who l.who n, count_minus both faulty n)))
  where
    shared : (a : ℕ) × (a < n) × ((k.who a and l.who a) and not (faulty a) ≡ true) → Shared n P Q faulty
    shared (a, h, t) =
        let both = and_left _ _ t in
        record { who = a; low = h; honest = not_true _ (and_right _ _ t); left = k.have a h (and_left _ _ both); right = l.have a h (and_right _ _ both) }

-- some author is among at least one
pub some_of : (n q : ℕ) (P : ℕ → Type 0) → 0 < q → Many n q P → (a : ℕ) × (a < n) × P a
some_of n q P h k = let w = count_witness k.who n (omega (arith, k.enough)) in (w.0, w.1, k.have w.0 w.1 w.2)

-- what follows from P has at least as many
pub many_map : (n q : ℕ) (P Q : ℕ → Type 0) → ((a : ℕ) → a < n → P a → Q a) → Many n q P → Many n q Q
many_map n q P Q f k = record { who = k.who; enough = k.enough; have = λ a l t. f a l (k.have a l t) }

-- of at least 2f + 1, at least f + 1 are not faulty
pub many_honest : (n f : ℕ) (P : ℕ → Type 0) (faulty : ℕ → Bool) → count_to faulty n ≤ f → Many n (2 * f + 1) P
    → Many n (f + 1) (λ a. P a × (faulty a ≡ false))
many_honest n f P faulty few k = record {
  who = λ a. k.who a and not (faulty a);
  enough = omega (arith, count_minus k.who faulty n);
  have = λ a l t. (k.have a l (and_left _ _ t), not_true _ (and_right _ _ t));
}

-- a test that at least q pass, and back: what is counted and what is said of the authors are the same
pub many_test : (n q : ℕ) (p : ℕ → Bool) → q ≤ count_to p n → Many n q (λ a. p a ≡ true)
many_test n q p h = record { who = p; enough = h; have = λ a l t. t }

pub many_count : (n q : ℕ) (p : ℕ → Bool) → Many n q (λ a. p a ≡ true) → q ≤ count_to p n
many_count n q p k = omega (arith, k.enough, count_mono k.who p n k.have)
