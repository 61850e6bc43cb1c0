-- Document 01, "Support, certificates, decisions": what is decided of a slot. A committed one has a vertex, by its position or by its name.
-- Assumes nothing.
use Rattle.std.specs.Prelude.{ℕ, zero, suc, ◌+◌, ◌≡◌}

pub data Decision (A : Type 0) : Type 0 where
  undecided : Decision A
  skipped : Decision A
  committed : A → Decision A

abbrev pub Decided : {A : Type 0} → Decision A → Type 0
Decided d = d ≡ undecided → ⊥

-- The same decision, its vertex told in another way.
unfoldable pub tell : {A B : Type 0} → (A → B) → Decision A → Decision B
tell f undecided = undecided
tell f skipped = skipped
tell f (committed a) = committed (f a)

-- What a cell holds: 0 undecided, 1 skipped, or 2 + position.
abbrev pub cell : Decision ℕ → ℕ
cell undecided = 0
cell skipped = 1
cell (committed p) = 2 + p

-- What a cell says.
abbrev pub said : ℕ → Decision ℕ
said zero = undecided
said (suc zero) = skipped
said (suc (suc p)) = committed p
