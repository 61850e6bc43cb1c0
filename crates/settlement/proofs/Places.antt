-- Order places that are written from the front, one more, and some more in the places that are left.
-- Assumes nothing.
use Prim.Native.Nat.{ℕ, ◌+◌, ◌-◌, ◌≤◌, ◌<◌}
use mathlib.Core.Path.{◌≡◌, refl, sym, ap, ◌∙◌}
use mathlib.Core.List.{List, [], ◌∷◌, ◌++◌, append_assoc, append-nil}
use native.Mathlib.Omega.{arith}
use lib.ListN.{length, set, take, drop, length-append, length-drop, drop_of_length-le}
use lib.Seq.{take_at, drop_at, drop-drop}
use borrow.Rule.Slice.PartMut.{put_mid}
use Rattle.folds.proofs.Lists.{put_next}
use Rattle.rules.specs.Settlement.{written_over}

-- as many places as before
pub written_length : (v old : List ℕ) → length v ≤ length old → length (written_over v old) ≡ length old
written_length v old l = simp (length-append, length-drop) (omega arith)

pub places_next : (new old : List ℕ) (v : ℕ) → length new < length old → set (written_over new old) (length new) v ≡ written_over (new ++ v ∷ []) old
places_next new old v l =
    let e : length new + 1 ≡ length (new ++ v ∷ []) = simp length-append (omega arith) in
    put_next new old (length new) v 0 refl l ∙ ap (λ k. (new ++ v ∷ []) ++ drop k old) e

pub places_after : (w f old : List ℕ) → take (length w) (written_over w old) ++ written_over f (drop (length w) (written_over w old)) ≡ written_over (w ++ f) old
places_after w f old =
    ap (λ x. x ++ written_over f (drop (length w) (written_over w old))) (take_at w (drop (length w) old) (length w) refl)
    ∙ ap (λ x. w ++ written_over f x) (drop_at w (drop (length w) old) (length w) refl)
    ∙ ap (λ x. w ++ (f ++ x)) (drop-drop (length f) (length w) old)
    ∙ sym (append_assoc w f _)
    ∙ ap (λ k. (w ++ f) ++ drop k old) (sym (length-append w f))

-- the places from `count` on, as they come back
pub places_back : (count : ℕ) (old left : List ℕ) → put_mid count (length old - count) old left ≡ take count old ++ left
places_back count old left =
    let none : drop (length old - count) (drop count old) ≡ [] = drop_of_length-le (drop count old) {i = length old - count} (omega (arith, length-drop count old)) in
    ap (λ x. take count old ++ (left ++ x)) none ∙ ap (λ x. take count old ++ x) (append-nil left)
