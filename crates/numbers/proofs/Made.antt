-- What `from_fn` makes of a closure that gives h at each number below n and stays as it is.
-- Assumes nothing.
use Rattle.std.proofs.Common.{◌≡◌, ℕ, zero, suc, ◌+◌, ◌<◌, ◌≤◌, List, get_or, eqb, subst, sym, ◌∙◌, arith, ext_get_or}
use Rattle.std.specs.Fn.{Mut, Called}
use Rattle.std.specs.Array.{IsFromFnResult, IsFromFnResultFrom}
use borrow.Author.Tests.{eqb-true, eqb-false}
use Rattle.folds.specs.Folds.{tabulate}
use Rattle.folds.proofs.Lists.{length_tabulate, get_or_tabulate}
use Rattle.folds.proofs.Tests.{by_test}

module _ {F : Type 0} (g : Mut F (ℕ × Unit {0}) ℕ) (f : F) (h : ℕ → ℕ) (n : ℕ) (acts : (x r : ℕ) (f' : F) → x < n → Called g f (x, tt) r f' → (f' ≡ f) × (r ≡ h x)) (ys : List ℕ) where
  each : (m i : ℕ) → i + m ≤ n → IsFromFnResultFrom g f ys i m → (k : ℕ) → i ≤ k → k < i + m → get_or ys k 0 ≡ h k
  each zero i b e k l u = absurd (omega arith)
  each (suc m) i b (q, y, here, call, rest) k l u =
      let kept = acts i y q (omega arith) call in
      by_test (eqb i k)
      (λ t. let e : i ≡ k = eqb-true i k t in subst (λ j. get_or ys j 0 ≡ h j) e (here.1 0 ∙ kept.1))
      (λ t. each m (i + 1) (omega arith) (subst (λ p. IsFromFnResultFrom g p ys (i + 1) m) kept.0 rest) k (omega (arith, eqb-false i k t)) (omega arith))

  pub made : IsFromFnResult g f ys n → ys ≡ tabulate h n
  made r = ext_get_or 0 ys (tabulate h n) (r.long ∙ sym (length_tabulate h n)) (λ k l.
      let below : k < n = omega (arith, r.long) in
      each n 0 (omega arith) r.each k (omega arith) (omega arith) ∙ sym (get_or_tabulate h n k 0 below))
