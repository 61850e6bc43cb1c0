-- A number's digits as the library writes them are those of document 01.
-- Assumes nothing.
use Prim.Native.Nat.{ℕ, zero, suc, ◌/◌, ◌%◌, ◌^◌, ◌<◌}
use mathlib.Core.Path.{◌≡◌, sym}
use mathlib.Core.List.{List, []}
use native.Mathlib.Omega.{arith}
use Rattle.std.proofs.Common.{rules}
use Rattle.std.specs.Fmt.{decimal as printed}
use Rattle.std.proofs.lemmas.Fmt.{AppendsLastDigit, decimal_from_appends, length-decimal-le_succ}
use Rattle.rules.specs.Program.{spell, decimal}

-- At most k digits.
spelled : (k n : ℕ) → List ℕ
spelled zero n = []
spelled (suc k) n = spell k (n / 10) (n % 10)

appends : AppendsLastDigit spelled
unfolding spelled spell
appends = search rules

pub printed_is : (n : ℕ) → n < 2 ^ 64 → printed n ≡ decimal n
unfolding decimal spelled
printed_is n h = sym (decimal_from_appends spelled appends (suc n) n h (omega (arith, length-decimal-le_succ n h)))
