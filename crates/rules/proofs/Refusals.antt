-- How checks follow one another, and that what an answer tells fixes the answer.
-- Assumes nothing.
use Prim.Native.Nat.{ℕ, zero, suc, ◌+◌, ◌<◌}
use mathlib.Core.Path.{◌≡◌, refl, sym, ap, ◌∙◌}
use mathlib.Core.Bool.{Bool, true, false, false≢true, true≢false}
use mathlib.Core.List.{List, [], ◌∷◌}
use native.Mathlib.Nat.{le_refl, le_step, not-suc-le-zero, le_of_suc-le-suc, eq-or-lt_of_le}
use mathlib.Core.Logic.{⊎_elim, ◌≢◌}
use native.Mathlib.Omega.{arith}
use native.Mathlib.Numerals.{add-one}
use lib.ListN.{get_or}
use Rattle.rules.specs.declared.Refusal.{Refusal}
use Rattle.rules.specs.declared.Refusal.TheVariants.{Authors, Length, Records, Sum, Padding, Rising, Entries, Earlier, Lent, Unnamed, Input, RoundZero, MarkZero, AuthorPast}
use Rattle.std.specs.Result.{result_and}
use Rattle.std.specs.declared.result.Result.{Result}
use Rattle.std.specs.declared.result.Result.TheVariants.{Ok, Err}
use Rattle.rules.specs.Refusals.{Told, gives, refused, passed, number_of, position_of, row_of, refusal_tells, tells, ◌when◌, ◌then◌, each_to}

pub refused_gives : {A : Type 0} {k : ℕ} {vs : List ℕ} {a : A} {c : Told A} → c ≡ refused k vs → c ≡ gives a → ⊥
refused_gives p q = let z : ◌≡◌ {A = ℕ} 0 1 = cc in omega arith

-- ---- one check, and one after another

pub when_yes : (c : Told (Unit {0})) (b : Bool) → b ≡ true → c when b ≡ c
unfolding ◌when◌
when_yes c true e = refl
when_yes c false e = absurd (false≢true e)

pub when_no : (c : Told (Unit {0})) (b : Bool) → b ≡ false → c when b ≡ passed
unfolding ◌when◌
when_no c false e = refl
when_no c true e = absurd (true≢false e)

pub when_passed : (k : ℕ) (vs : List ℕ) (b : Bool) → refused k vs when b ≡ passed → b ≡ false
unfolding ◌when◌
when_passed k vs true e = absurd (refused_gives refl e)
when_passed k vs false e = refl

module _ {A : Type 0} where
  -- a check that refuses answers
  pub then_refused : {k : ℕ} {vs : List ℕ} (c : Told (Unit {0})) (d : Told A) → c ≡ refused k vs → c then d ≡ refused k vs
  unfolding ◌then◌
  then_refused (gives a) d e = absurd (refused_gives e refl)
  then_refused (refused k vs) d e = λ i. told (e i)
    where
      told : Told (Unit {0}) → Told A
      told (gives a) = d
      told (refused k vs) = refused k vs

  -- one that is passed leaves the answer to what follows
  pub then_passed : (c : Told (Unit {0})) (d : Told A) → c ≡ passed → c then d ≡ d
  unfolding ◌then◌
  then_passed (gives a) d e = refl
  then_passed (refused k vs) d e = absurd (refused_gives refl e)

  -- something is given only if the first is passed
  pub then_both : {a : A} (c : Told (Unit {0})) (d : Told A) → c then d ≡ gives a → (c ≡ passed) × (d ≡ gives a)
  unfolding ◌then◌
  then_both (gives tt) d e = (refl, e)
  then_both (refused k vs) d e = absurd (refused_gives refl e)

  -- what follows a check matters only if that is passed
  pub then_same : (c : Told (Unit {0})) (d e : Told A) → (c ≡ passed → d ≡ e) → c then d ≡ c then e
  unfolding ◌then◌
  then_same (gives tt) d e h = h refl
  then_same (refused k vs) d e h = refl

-- a refusal of a check after which something is given is the check's
pub gives_refused : {A : Type 0} {k : ℕ} {vs : List ℕ} (c : Told (Unit {0})) (a : A) → c then gives a ≡ refused k vs → c ≡ refused k vs
unfolding ◌then◌
gives_refused (gives tt) a e = absurd (refused_gives e refl)
gives_refused (refused j ws) a e = cc

pub then_assoc : {A : Type 0} (b c : Told (Unit {0})) (d : Told A) → (b then c) then d ≡ b then c then d
unfolding ◌then◌
then_assoc (gives tt) c d = refl
then_assoc (refused k vs) c d = refl

-- a check that refuses nothing of what the first has passed
pub then_idle : (c d : Told (Unit {0})) → (c ≡ passed → d ≡ passed) → c then d ≡ c
unfolding ◌then◌
then_idle (gives tt) d h = h refl
then_idle (refused k vs) d h = refl

-- ---- what code that asks for an answer and goes on knows

-- an answer that is handed on
pub hands_on : {A : Type 0} {x : Result (Unit {0}) Refusal} {r : Refusal} (c : Told (Unit {0})) (d : Told A) → tells x ≡ c → x ≡ Err r
    → refusal_tells r ≡ c then d
hands_on c d e f = sym (then_refused c d (sym e ∙ ap tells f))

-- an answer after which it goes on
pub goes_on : {x : Result (Unit {0}) Refusal} {c : Told (Unit {0})} → tells x ≡ c → x ≡ Ok tt → c ≡ passed
goes_on e f = sym e ∙ ap tells f

-- ---- the check of each

pub each_start : (c : ℕ → Told (Unit {0})) → each_to c 0 ≡ passed
unfolding each_to
each_start c = refl

pub each_next : (c : ℕ → Told (Unit {0})) (i : ℕ) → each_to c (i + 1) ≡ each_to c i then c i
unfolding each_to
each_next c i = rw (add-one i)

-- what one refuses after all before it passed is the answer
pub each_refused : (c : ℕ → Told (Unit {0})) (k : ℕ) (vs : List ℕ) (i j : ℕ) → i < j → each_to c i ≡ passed → c i ≡ refused k vs → each_to c j ≡ refused k vs
unfolding each_to
each_refused c k vs i zero l p q = absurd (not-suc-le-zero l)
each_refused c k vs i (suc j) l p q = ⊎_elim here (λ h. then_refused _ _ (each_refused c k vs i j h p q)) (eq-or-lt_of_le (le_of_suc-le-suc l))
  where
    here : i ≡ j → each_to c j then c j ≡ refused k vs
    here e = rw (← e) (then_passed (each_to c i) (c i) p ∙ q)

-- all is passed only if each is
pub each_passed : (c : ℕ → Told (Unit {0})) (k : ℕ) → each_to c k ≡ passed → (i : ℕ) → i < k → c i ≡ passed
unfolding each_to
each_passed c zero e i l = absurd (not-suc-le-zero l)
each_passed c (suc k) e i l = ⊎_elim (λ q. ap c q ∙ both.1) (λ h. each_passed c k both.0 i h) (eq-or-lt_of_le (le_of_suc-le-suc l))
  where
    both : (each_to c k ≡ passed) × (c k ≡ passed)
    both = then_both _ _ e

-- a last row that refuses nothing that all other rows have passed so far can be left out
pub each_without : (c d : ℕ → Told (Unit {0})) (k : ℕ) → ((i : ℕ) → i < k → each_to c (suc i) ≡ passed → d i ≡ passed)
    → each_to (λ i. c i then d i) k ≡ each_to c k
unfolding each_to
each_without c d zero h = refl
each_without c d (suc k) h =
    rw (each_without c d k (λ i l. h i (le_step l)))
    (sym (then_assoc (each_to c k) (c k) (d k)) ∙ then_idle (each_to c k then c k) (d k) (h k (le_refl (suc k))))

-- ---- what is so of whatever is refused

module _ (P : ℕ → List ℕ → Type 0) where
  -- P is so of the number and the values, where there is a refusal
  abbrev pub Tells : Told (Unit {0}) → Type 0
  Tells (gives a) = Unit {0}
  Tells (refused k vs) = P k vs

  pub when_tells : (k : ℕ) (vs : List ℕ) (b : Bool) → (b ≡ true → P k vs) → Tells (refused k vs when b)
  unfolding ◌when◌
  when_tells k vs true h = h refl
  when_tells k vs false h = tt

  pub then_tells : (c d : Told (Unit {0})) → Tells c → (c ≡ passed → Tells d) → Tells (c then d)
  unfolding ◌then◌
  then_tells (gives tt) d h g = g refl
  then_tells (refused k vs) d h g = h

  pub each_tells : (c : ℕ → Told (Unit {0})) (k : ℕ) → ((i : ℕ) → i < k → Tells (c i)) → Tells (each_to c k)
  unfolding each_to
  each_tells c zero h = tt
  each_tells c (suc k) h = then_tells _ _ (each_tells c k (λ i l. h i (le_step l))) (λ _. h k (le_refl (suc k)))

-- ---- what an answer tells fixes the answer

-- the refusal with a number and a position, by its place in the list; Input stands where no refusal has the number
unnumber : ℕ → ℕ → Refusal
unnumber k p =
    let numbered =
    Input ∷ Authors ∷ Length ∷ Records ∷ Sum p ∷ Padding p ∷ Rising p ∷ Entries p ∷ Earlier p ∷ Input ∷ Lent ∷ Unnamed ∷ Input
    ∷ Input ∷ Input ∷ Input ∷ Input ∷ Input ∷ RoundZero p ∷ MarkZero p ∷ AuthorPast p ∷ [] in
    get_or numbered k Input

-- What each row is: it has its own number, above 0, and one value, the position.
record Rowed (r : Refusal) : Type 0 where
  fixed : unnumber (row_of r).number (get_or (row_of r).values 0 0) ≡ r
  one : (row_of r).values ≡ get_or (row_of r).values 0 0 ∷ []
  above : 0 < (row_of r).number

rowed : (r : Refusal) → Rowed r
unfolding unnumber
rowed Authors = record { fixed = refl; one = refl; above = omega arith }
rowed Length = record { fixed = refl; one = refl; above = omega arith }
rowed Records = record { fixed = refl; one = refl; above = omega arith }
rowed (Sum p) = record { fixed = refl; one = refl; above = omega arith }
rowed (Padding p) = record { fixed = refl; one = refl; above = omega arith }
rowed (Rising p) = record { fixed = refl; one = refl; above = omega arith }
rowed (Entries p) = record { fixed = refl; one = refl; above = omega arith }
rowed (Earlier p) = record { fixed = refl; one = refl; above = omega arith }
rowed Lent = record { fixed = refl; one = refl; above = omega arith }
rowed Unnamed = record { fixed = refl; one = refl; above = omega arith }
rowed Input = record { fixed = refl; one = refl; above = omega arith }
rowed (RoundZero p) = record { fixed = refl; one = refl; above = omega arith }
rowed (MarkZero p) = record { fixed = refl; one = refl; above = omega arith }
rowed (AuthorPast p) = record { fixed = refl; one = refl; above = omega arith }

pub one_value : (r : Refusal) → (row_of r).values ≡ get_or (row_of r).values 0 0 ∷ []
one_value r = (rowed r).one

pub number_above : (r : Refusal) → 0 < (row_of r).number
number_above r = (rowed r).above

-- 9 is retired: no refusal has that number
pub nine_retired : (r : Refusal) → (row_of r).number ≢ 9
unfolding unnumber
nine_retired r e =
    let input : Input ≡ r = ap (λ k. unnumber k (get_or (row_of r).values 0 0)) (sym e) ∙ (rowed r).fixed in
    let twelve : 12 ≡ (row_of r).number = ap (λ s. (row_of s).number) input in
    omega arith

pub refusal_unique : {A : Type 0} (r s : Refusal) → ◌≡◌ {A = Told A} (refusal_tells r) (refusal_tells s) → r ≡ s
refusal_unique r s e = sym (rowed r).fixed ∙ ap (λ c. unnumber (number_of c) (position_of c)) e ∙ (rowed s).fixed

-- something that is given is no refusal
pub gives_refusal : {A : Type 0} (a : A) (r : Refusal) → gives a ≡ refusal_tells r → ⊥
gives_refusal a r e = refused_gives refl (sym e)

pub tells_unique : {A : Type 0} (c d : Result A Refusal) → tells c ≡ tells d → c ≡ d
tells_unique (Ok a) (Ok b) e = cc
tells_unique (Ok a) (Err s) e = absurd (gives_refusal a s e)
tells_unique (Err r) (Ok b) e = absurd (gives_refusal b r (sym e))
tells_unique (Err r) (Err s) e = ap Err (refusal_unique r s e)

-- the first failing check answers
pub tells_and : {A : Type 0} (c : Result (Unit {0}) Refusal) (d : Result A Refusal) → tells (result_and c d) ≡ tells c then tells d
unfolding ◌then◌
tells_and (Ok tt) d = refl
tells_and (Err r) d = refl
