-- Document 01, "Examples": P1 to P14 and the three sums hold, each by computation.
-- Assumes nothing.
use mathlib.Core.List.{List, [], ◌∷◌}
use mathlib.Core.Path.{◌≡◌, refl, ap, ◌∙◌}
use Prim.Native.Nat.{ℕ}
use mathlib.Core.Bool.{false}
use lib.Dec.{ltb}
use lib.ListN.{length}
use Rattle.rules.specs.Refusals.{passed}
use Rattle.rules.specs.Record.{first, vertices}
use Rattle.rules.specs.Check.{check}
use Rattle.rules.specs.Decide.{box_setting}
use Rattle.rules.specs.Settlement.{too_short, settled, settle_if, lent_check, settle}
use Rattle.rules.specs.Program.{holds, lines, printed}
use Rattle.rules.proofs.Refusals.{then_passed, when_no}
use Rattle.rules.proofs.Sums.{three_sums}
use Rattle.rules.specs.Tables.{p1, p2, p3, p4, p5, p6, p7, p8, p9, p10, p11, p12, p13, p14}
use Rattle.examples.specs.Examples.{Hold, Answer, answer, nines, a1, a2, a3, a4, a5, a6, a7, a8, a9, a10, a11, a12, a13, a14}
use Rattle.rules.specs.Open.{rules_open}

-- The answer for a table that passes. What is printed and what is settled go through the same check, so that is computed once.
pub by_parts : (t : List ℕ) (a : Answer) → check first 4 t ≡ passed → ltb holds (length (4 ∷ t)) ≡ false
    → too_short (box_setting 4) (vertices first t) nines ≡ false
    → lines passed (box_setting 4) 4 (vertices first t) ≡ a.prints → settled (box_setting 4) 4 (vertices first t) nines ≡ a.settles → answer t ≡ a
unfolding printed settle lent_check settle_if
by_parts t a c h l e f =
    let prints = then_passed _ _ (when_no _ _ h) ∙ c in
    let fits = then_passed _ _ c ∙ when_no _ _ l in
    λ i. record {
      prints = (ap (λ k. lines k (box_setting 4) 4 (vertices first t)) prints ∙ e) i;
      settles = (ap (λ k. settle_if k (box_setting 4) 4 (vertices first t) nines) fits ∙ f) i;
    }

ex1 : answer p1 ≡ a1
unfolding rules_open p1
ex1 = by_parts p1 a1 refl refl refl refl refl

ex2 : answer p2 ≡ a2
unfolding rules_open p2
ex2 = by_parts p2 a2 refl refl refl refl refl

ex3 : answer p3 ≡ a3
unfolding rules_open p3
ex3 = by_parts p3 a3 refl refl refl refl refl

ex4 : answer p4 ≡ a4
unfolding rules_open p4
ex4 = by_parts p4 a4 refl refl refl refl refl

ex5 : answer p5 ≡ a5
unfolding rules_open p5
ex5 = by_parts p5 a5 refl refl refl refl refl

ex6 : answer p6 ≡ a6
unfolding rules_open p6
ex6 = by_parts p6 a6 refl refl refl refl refl

ex7 : answer p7 ≡ a7
unfolding rules_open p7
ex7 = by_parts p7 a7 refl refl refl refl refl

ex8 : answer p8 ≡ a8
unfolding rules_open p8
ex8 = by_parts p8 a8 refl refl refl refl refl

ex9 : answer p9 ≡ a9
unfolding rules_open p9
ex9 = by_parts p9 a9 refl refl refl refl refl

ex10 : answer p10 ≡ a10
unfolding rules_open p10
ex10 = refl

ex11 : answer p11 ≡ a11
unfolding rules_open p11
ex11 = refl

ex12 : answer p12 ≡ a12
unfolding rules_open p12
ex12 = refl

ex13 : answer p13 ≡ a13
unfolding rules_open p13
ex13 = refl

ex14 : answer p14 ≡ a14
unfolding rules_open p14
ex14 = refl

pub examples : Hold
examples = record {
  sums = three_sums;
  fourteen = λ i. ex1 i ∷ ex2 i ∷ ex3 i ∷ ex4 i ∷ ex5 i ∷ ex6 i ∷ ex7 i ∷ ex8 i ∷ ex9 i ∷ ex10 i ∷ ex11 i ∷ ex12 i ∷ ex13 i ∷ ex14 i ∷ [];
}
