-- Names: one name or two, and which is below.
-- Assumes nothing.
use Prim.Native.Nat.{ℕ, pred, ◌-◌, ◌≤◌, ◌<◌}
use mathlib.Core.Path.{◌≡◌, refl, ap, ◌∙◌}
use mathlib.Core.Logic.{◌⊎◌, inl, inr}
use mathlib.Core.Bool.{true}
use native.Mathlib.Omega.{arith}
use lib.Dec.{ltb, eqb}
use borrow.Author.Tests.{eqb-true, eq-eqb, ltb-true, lt-ltb}
use Rattle.folds.specs.Folds.{◌and◌, ◌or◌}
use Rattle.folds.proofs.Tests.{and_left, and_right, and_true, or_cases, or_left, or_right, compare}
use Rattle.rules.specs.declared.Name.{Name}
use Rattle.rules.specs.declared.Vertex.{Vertex}
use Rattle.rules.specs.Record.{entry, entry_name, named, same_name, below}

pub name_path : (x y : Name) → x.round ≡ y.round → x.author ≡ y.author → x.mark ≡ y.mark → x ≡ y
name_path x y p q r = λ i. record { round = p i; author = q i; mark = r i }

-- the name that code makes for entry i
pub entry_named : (v : Vertex) (i : ℕ) → named (v.round - 1) i (entry v i) ≡ entry_name v i
entry_named v i = let e : v.round - 1 ≡ pred v.round = omega arith in name_path _ _ e refl refl

-- ---- the test for one name

pub same_name_lem : (x y : Name) → same_name x y ≡ true → x ≡ y
unfolding same_name
same_name_lem x y e =
    let rest = and_right _ _ e in
    name_path x y (eqb-true _ _ (and_left _ _ e)) (eqb-true _ _ (and_left _ _ rest)) (eqb-true _ _ (and_right _ _ rest))

pub name_same : (x y : Name) → x ≡ y → same_name x y ≡ true
unfolding same_name
name_same x y e = and_true _ _ (eq-eqb _ _ (ap (λ z. z.round) e)) (and_true _ _ (eq-eqb _ _ (ap (λ z. z.author) e)) (eq-eqb _ _ (ap (λ z. z.mark) e)))

-- ---- the order of names: by round, then author, then mark

pub Below : Name → Name → Type 0
Below x y = (x.round < y.round) ⊎ ((x.round ≡ y.round) × ((x.author < y.author) ⊎ ((x.author ≡ y.author) × (x.mark < y.mark))))

pub below_is : (x y : Name) → below x y ≡ true → Below x y
unfolding below Below
below_is x y e = by_round (or_cases _ _ e)
  where
    by_author : (ltb x.author y.author ≡ true) ⊎ (eqb x.author y.author and ltb x.mark y.mark ≡ true)
        → (x.author < y.author) ⊎ ((x.author ≡ y.author) × (x.mark < y.mark))
    by_author (inl h) = inl (ltb-true _ _ h)
    by_author (inr h) = inr (eqb-true _ _ (and_left _ _ h), ltb-true _ _ (and_right _ _ h))

    by_round : (ltb x.round y.round ≡ true)
        ⊎ (eqb x.round y.round and (ltb x.author y.author or eqb x.author y.author and ltb x.mark y.mark) ≡ true)
        → (x.round < y.round) ⊎ ((x.round ≡ y.round) × ((x.author < y.author) ⊎ ((x.author ≡ y.author) × (x.mark < y.mark))))
    by_round (inl h) = inl (ltb-true _ _ h)
    by_round (inr h) = inr (eqb-true _ _ (and_left _ _ h), by_author (or_cases _ _ (and_right _ _ h)))

pub is_below : (x y : Name) → Below x y → below x y ≡ true
unfolding below Below
is_below x y (inl l) = or_left _ _ (lt-ltb _ _ l)
is_below x y (inr (e, inl l)) = or_right _ _ (and_true _ _ (eq-eqb _ _ e) (or_left _ _ (lt-ltb _ _ l)))
is_below x y (inr (e, inr (a, l))) = or_right _ _ (and_true _ _ (eq-eqb _ _ e) (or_right _ _ (and_true _ _ (eq-eqb _ _ a) (lt-ltb _ _ l))))

pub below_trans : (x y z : Name) → Below x y → Below y z → Below x z
unfolding Below
below_trans x y z (inl a) (inl b) = inl (omega arith)
below_trans x y z (inl a) (inr (b, k)) = inl (omega arith)
below_trans x y z (inr (a, h)) (inl b) = inl (omega arith)
below_trans x y z (inr (a, inl h)) (inr (b, inl k)) = inr (a ∙ b, inl (omega arith))
below_trans x y z (inr (a, inl h)) (inr (b, inr (k, m))) = inr (a ∙ b, inl (omega arith))
below_trans x y z (inr (a, inr (h, m))) (inr (b, inl k)) = inr (a ∙ b, inl (omega arith))
below_trans x y z (inr (a, inr (h, m))) (inr (b, inr (k, l))) = inr (a ∙ b, inr (h ∙ k, omega arith))

-- no name is below itself
pub below_irrefl : (x y : Name) → x ≡ y → Below x y → ⊥
unfolding Below
below_irrefl x y e (inl a) = omega (arith, ap (λ z. z.round) e)
below_irrefl x y e (inr (a, inl h)) = omega (arith, ap (λ z. z.author) e)
below_irrefl x y e (inr (a, inr (h, m))) = omega (arith, ap (λ z. z.mark) e)

-- of two names one is below the other, or they are one name
pub below_total : (x y : Name) → Below x y ⊎ ((x ≡ y) ⊎ Below y x)
unfolding Below
below_total x y = rounds (compare x.round y.round)
  where
    Goal : Type 0
    Goal = Below x y ⊎ ((x ≡ y) ⊎ Below y x)

    marks : x.round ≡ y.round → x.author ≡ y.author → (x.mark < y.mark) ⊎ ((x.mark ≡ y.mark) ⊎ (y.mark < x.mark)) → Goal
    marks r a (inl h) = inl (inr (r, inr (a, h)))
    marks r a (inr (inl h)) = inr (inl (name_path x y r a h))
    marks r a (inr (inr h)) = inr (inr (inr (omega arith, inr (omega arith, h))))

    authors : x.round ≡ y.round → (x.author < y.author) ⊎ ((x.author ≡ y.author) ⊎ (y.author < x.author)) → Goal
    authors r (inl h) = inl (inr (r, inl h))
    authors r (inr (inl h)) = marks r h (compare x.mark y.mark)
    authors r (inr (inr h)) = inr (inr (inr (omega arith, inl h)))

    rounds : (x.round < y.round) ⊎ ((x.round ≡ y.round) ⊎ (y.round < x.round)) → Goal
    rounds (inl h) = inl (inl h)
    rounds (inr (inl h)) = authors h (compare x.author y.author)
    rounds (inr (inr h)) = inr (inr (inl h))

-- a lower name has no higher round
pub below_round : (x y : Name) → Below x y → x.round ≤ y.round
unfolding Below
below_round x y (inl a) = omega arith
below_round x y (inr (a, h)) = omega arith

-- of two names of one round the authors tell
pub named_below : (r a b m m' : ℕ) → a < b → Below (named r a m) (named r b m')
unfolding Below
named_below r a b m m' l = inr (refl, inl l)

-- of two names of one round and author the marks tell
pub below_mark : (x y : Name) → Below x y → x.round ≡ y.round → x.author ≡ y.author → x.mark < y.mark
unfolding Below
below_mark x y (inl a) r h = absurd (omega arith)
below_mark x y (inr (a, inl b)) r h = absurd (omega arith)
below_mark x y (inr (a, inr (b, m))) r h = m
