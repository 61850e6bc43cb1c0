-- Document 01, "Support, certificates, decisions": the decision of every slot.
-- Assumes nothing.
use Rattle.std.specs.Prelude.{ℕ, zero, suc, pred, ◌-◌, Bool, false, not, cond, List, [], ◌∷◌, ltb, eqb, length, get_or, drop}
use Rattle.folds.specs.Folds.{◌and◌, any_to, first_to}
use Rattle.rules.specs.declared.Vertex.{Vertex}
use Rattle.rules.specs.Authors.{Slots, one_leader}
use Rattle.rules.specs.Record.{at}
use Rattle.rules.specs.Decision.{Decision, undecided, skipped, committed}
use Rattle.rules.specs.Support.{references, certifies, direct_commit, SkipRule, direct_skip}
use Rattle.rules.specs.History.{StepRule, history}

-- What the rules below leave to a setting: the slots, the direct skip, and the step of a history.
pub record Setting : Type 0 where
  pub slots : Slots
  pub skip : SkipRule
  pub step : StepRule

-- The setting of the box.
abbrev pub box_setting : ℕ → Setting
box_setting n = record { slots = one_leader n; skip = direct_skip; step = references }

-- R, the highest round: that of the last record. An empty table has highest round 0.
unfoldable pub highest : List Vertex → ℕ
highest vs = (at vs (pred (length vs))).round

-- A vertex of the slot: of its round and by its leader.
unfoldable pub in_slot : Slots → ℕ → Vertex → Bool
in_slot S s v = eqb v.round (S.round_of s) and eqb v.author (S.leader_of s)

-- The vertex at p is in the slot and passes the test.
unfoldable pub qualifies : Slots → List Vertex → ℕ → (Vertex → Bool) → ℕ → Bool
qualifies S vs s ok p = in_slot S s (at vs p) and ok (at vs p)

-- If several B qualify, the lowest mark: where it stands, or the number of records if none qualifies.
unfoldable pub lowest : Slots → List Vertex → ℕ → (Vertex → Bool) → ℕ
lowest S vs s ok =
    first_to
    (λ p. qualifies S vs s ok p and not (any_to (λ q. ltb (at vs q).mark (at vs p).mark and qualifies S vs s ok q) (length vs)))
    (length vs)

-- Committed with the lowest-mark vertex of the slot that qualifies; if there is no such vertex, d.
unfoldable pub choose : Slots → List Vertex → ℕ → (Vertex → Bool) → Decision ℕ → Decision ℕ
choose S vs s ok d = let p = lowest S vs s ok in cond (ltb p (length vs)) (committed p) d

-- B is certified by some vertex in the history.
unfoldable pub certified_in : ℕ → List Vertex → List Bool → Vertex → Bool
certified_in n vs h b = any_to (λ q. get_or h q false and certifies n vs (at vs q) b) (length h)

-- The search stops at the first slot that isn't skipped. None, or an undecided one: undecided. A committed one: its vertex, the anchor.
unfoldable pub anchor : List (Decision ℕ) → Decision ℕ
anchor [] = undecided
anchor (undecided ∷ ds) = undecided
anchor (skipped ∷ ds) = anchor ds
anchor (committed a ∷ ds) = committed a

-- Committed with the lowest-mark B certified by some vertex in the anchor's history; if there is no such B, skipped.
unfoldable pub through_anchor : Setting → ℕ → List Vertex → ℕ → ℕ → Decision ℕ
through_anchor C n vs s a = let h = history C.step vs a in choose C.slots vs s (certified_in n vs h) skipped

unfoldable pub indirect : Setting → ℕ → List Vertex → ℕ → Decision ℕ → Decision ℕ
indirect C n vs s undecided = undecided
indirect C n vs s skipped = undecided
indirect C n vs s (committed a) = through_anchor C n vs s a

-- Slot s, where `later` are the decisions of the slots after it. Skip is tried only if no commit, indirect only if neither.
unfoldable pub decide : Setting → ℕ → List Vertex → ℕ → List (Decision ℕ) → Decision ℕ
decide C n vs s later =
    choose C.slots vs s (direct_commit n vs)
    (cond
    (C.skip n vs (C.slots.round_of s) (C.slots.leader_of s))
    skipped
    (indirect C n vs s (anchor (drop (C.slots.start s - suc s) later))))

-- The k last of the slots below `top`, from the last downward, so that the later ones are at hand; lowest first.
unfoldable pub decide_last : Setting → ℕ → List Vertex → ℕ → ℕ → List (Decision ℕ)
decide_last C n vs top zero = []
decide_last C n vs top (suc k) = let later = decide_last C n vs top k in decide C n vs (top - suc k) later ∷ later

-- The decision of every slot up to the highest round. Of a slot past it: undecided.
unfoldable pub decisions : Setting → ℕ → List Vertex → List (Decision ℕ)
decisions C n vs = let top = C.slots.up_to (highest vs) in decide_last C n vs top top

abbrev pub decision_at : List (Decision ℕ) → ℕ → Decision ℕ
decision_at ds s = get_or ds s undecided
