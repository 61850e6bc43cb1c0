-- Document 01, "Refusal numbers and their order": what a call tells, the number and the values of each refusal, and how the first failing check answers.
-- Assumes nothing.
use Rattle.std.specs.declared.result.Result.{Result}
use Rattle.std.specs.declared.result.Result.TheVariants.{Ok, Err}
use Rattle.std.specs.Prelude.{ℕ, zero, suc, Bool, true, false, List, [], ◌∷◌, get_or}
use Rattle.rules.specs.declared.Refusal.{Refusal}
use Rattle.rules.specs.declared.Refusal.TheVariants.{Authors, Length, Records, Sum, Padding, Rising, Entries, Earlier, Lent, Unnamed, Input, RoundZero, MarkZero, AuthorPast}

-- ---- what is told, in this paper's numbers

-- What a call tells: what it gives, or that it is refused, with a number and values.
pub data Told (A : Type 0) : Type 0 where
  gives : A → Told A
  refused : (number : ℕ) (values : List ℕ) → Told A

-- A check gives nothing but that it is passed.
abbrev pub passed : Told (Unit {0})
passed = gives tt

-- Refused with a number and the record's position, 0 where the check is put to no record.
abbrev pub refusal : {A : Type 0} → (number position : ℕ) → Told A
refusal k p = refused k (p ∷ [])

-- The number and the position that are told; 0 and 0 where nothing is refused.
abbrev pub number_of : {A : Type 0} → Told A → ℕ
number_of (gives a) = 0
number_of (refused k vs) = k

abbrev pub position_of : {A : Type 0} → Told A → ℕ
position_of (gives a) = 0
position_of (refused k vs) = get_or vs 0 0

-- ---- what each case of an answer tells

-- The number and the values of each refusal. 9 is retired (document 02, h).
pub record Row : Type 0 where
  pub number : ℕ
  pub values : List ℕ

abbrev pub row : (number position : ℕ) → Row
row k p = record { number = k; values = p ∷ [] }

abbrev pub row_of : Refusal → Row
row_of Authors = row 1 0
row_of Length = row 2 0
row_of Records = row 3 0
row_of (Sum p) = row 4 p
row_of (Padding p) = row 5 p
row_of (Rising p) = row 6 p
row_of (Entries p) = row 7 p
row_of (Earlier p) = row 8 p
row_of Lent = row 10 0
row_of Unnamed = row 11 0
row_of Input = row 12 0
row_of (RoundZero p) = row 18 p
row_of (MarkZero p) = row 19 p
row_of (AuthorPast p) = row 20 p

abbrev pub refusal_tells : {A : Type 0} → Refusal → Told A
refusal_tells r = refused (row_of r).number (row_of r).values

-- An answer tells what it gives, or its refusal: the check and the lookup's second question give nothing more, the settlement its five values.
abbrev pub tells : {A : Type 0} → Result A Refusal → Told A
tells (Ok a) = gives a
tells (Err r) = refusal_tells r

-- ---- the order of checks

infixr 20 ◌then◌
infix 25 ◌when◌
-- One check: the refusal is given when its test holds.
unfoldable pub ◌when◌ : Told (Unit {0}) → Bool → Told (Unit {0})
c when true = c
c when false = passed

-- The first failing check answers.
unfoldable pub ◌then◌ : {A : Type 0} → Told (Unit {0}) → Told A → Told A
gives a then c = c
refused k vs then c = refused k vs

-- Records are taken by position from 0: the check of each of the first k, in turn.
unfoldable pub each_to : (ℕ → Told (Unit {0})) → ℕ → Told (Unit {0})
each_to c zero = passed
each_to c (suc k) = each_to c k then c k
