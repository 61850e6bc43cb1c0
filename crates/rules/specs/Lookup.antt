-- Document 01, "What the calls give": the lookup. It hands back the caller's own bytes for a name, or an empty part on any refusal;
-- a second question gives the refusal.
-- Assumes nothing.
use Rattle.std.specs.Prelude.{ℕ, ◌*◌, List, leb}
use Rattle.rules.specs.declared.Name.{Name}
use Rattle.rules.specs.Record.{Edition, records, vertices, find}
use Rattle.rules.specs.Refusals.{Told, gives, refused, refusal, ◌when◌, ◌then◌}
use Rattle.rules.specs.Check.{check}

-- 11: after the table passes, no such name. This is what the second question tells.
unfoldable pub lookup_check : Edition → ℕ → List ℕ → Name → Told (Unit {0})
lookup_check E n t x = check E n t then refusal 11 0 when leb (records E t) (find (vertices E t) x)

-- Where the record of the name stands, or why it stands nowhere.
unfoldable pub lookup_place : Edition → ℕ → List ℕ → Name → Told ℕ
lookup_place E n t x = lookup_check E n t x then gives (find (vertices E t) x)

-- Where the part begins and how long it is: the record's own bytes, or the first zero bytes of the table.
abbrev pub if_passed : Told (Unit {0}) → ℕ → ℕ
if_passed (gives a) k = k
if_passed (refused r vs) k = 0

unfoldable pub lookup_begin : Edition → ℕ → List ℕ → Name → ℕ
lookup_begin E n t x = if_passed (lookup_check E n t x) (E.size * find (vertices E t) x)

unfoldable pub lookup_length : Edition → ℕ → List ℕ → Name → ℕ
lookup_length E n t x = if_passed (lookup_check E n t x) E.size
