-- The order and the equality that are derived for names (round, then author, then mark) are those of the rules.
-- Assumes nothing.
use Rattle.std.proofs.Common.{◌≡◌, refl, sym, ◌∙◌, Bool, rules, cond, true, false, not, eqb, eq-eqb, ne_eqb, Less, Equal, Greater}
use Rattle.std.specs.Ordering.{partial_lt, partial_le}
use Rattle.folds.specs.Folds.{◌and◌, ◌or◌}
use Rattle.rules.specs.declared.Name.{Name}
use Rattle.rules.specs.Record.{below, same_name}
use Rattle.rules.specs.contracts.NamePartialEq.TheImpl.{eq-value}
use Rattle.rules.specs.contracts.NamePartialOrd.TheImpl.{partial_cmp-value}
use Rattle.rules.specs.contracts.NameOrd.TheImpl.{cmp-value}

pub eq_is : (x y : Name) → eq-value.it x y ≡ same_name x y
unfolding same_name ◌and◌
eq_is x y = search rules

pub lt_is : (x y : Name) → partial_lt partial_cmp-value.it x y ≡ below x y
unfolding below ◌and◌ ◌or◌
lt_is x y = search rules

pub le_is : (x y : Name) → partial_le partial_cmp-value.it x y ≡ not (below y x)
unfolding below ◌and◌ ◌or◌
le_is x y = search rules

pub cmp_is : (x y : Name) → cmp-value.it x y ≡ cond (same_name x y) Equal (cond (below x y) Less Greater)
unfolding same_name below ◌and◌ ◌or◌
cmp_is x y = search rules

-- ---- what each answer of the comparison says

less : (s b : Bool) → cond s Equal (cond b Less Greater) ≡ Less → (s ≡ false) × (b ≡ true)
less true b e = search rules
less false true e = (refl, refl)
less false false e = search rules

equal : (s b : Bool) → cond s Equal (cond b Less Greater) ≡ Equal → s ≡ true
equal true b e = refl
equal false true e = search rules
equal false false e = search rules

greater : (s b : Bool) → cond s Equal (cond b Less Greater) ≡ Greater → (s ≡ false) × (b ≡ false)
greater true b e = search rules
greater false true e = search rules
greater false false e = (refl, refl)

pub cmp_less : (x y : Name) → cmp-value.it x y ≡ Less → (same_name x y ≡ false) × (below x y ≡ true)
cmp_less x y e = less _ _ (sym (cmp_is x y) ∙ e)

pub cmp_equal : (x y : Name) → cmp-value.it x y ≡ Equal → same_name x y ≡ true
cmp_equal x y e = equal _ (below x y) (sym (cmp_is x y) ∙ e)

pub cmp_greater : (x y : Name) → cmp-value.it x y ≡ Greater → (same_name x y ≡ false) × (below x y ≡ false)
cmp_greater x y e = greater _ _ (sym (cmp_is x y) ∙ e)

-- ---- whether two names are the same, part by part

pub same_round : (x y : Name) → (x.round ≡ y.round → ⊥) → same_name x y ≡ false
unfolding same_name ◌and◌
same_round x y r = rw (ne_eqb _ _ r)

pub same_author : (x y : Name) → x.round ≡ y.round → (x.author ≡ y.author → ⊥) → same_name x y ≡ false
unfolding same_name ◌and◌
same_author x y r a = rw (eq-eqb _ _ r, ne_eqb _ _ a)

pub same_mark : (x y : Name) → x.round ≡ y.round → x.author ≡ y.author → same_name x y ≡ eqb x.mark y.mark
unfolding same_name ◌and◌
same_mark x y r a = rw (eq-eqb _ _ r, eq-eqb _ _ a) refl
