-- Demand 3: under its premises two tables decide alike what both decide, and one written order begins the other.
-- Said of any slots, step of a history and direct skip that have their laws, each box with a direct skip of its own; then of document 01's.
-- Assumes nothing.
use Prim.Native.Nat.{ℕ, ◌<◌}
use mathlib.Core.Path.{◌≡◌, refl, sym, ap, ◌∙◌}
use mathlib.Core.Logic.{◌⊎◌, inl, inr, ⊎_elim}
use mathlib.Core.Bool.{true}
use mathlib.Core.List.Memᴰ
use mathlib.Core.List.{List, []}
use lib.ListN.{length}
use Rattle.rules.specs.declared.Name.{Name}
use Rattle.rules.specs.declared.Vertex.{Vertex}
use Rattle.rules.specs.Authors.{Slots, one_leader}
use Rattle.rules.specs.Record.{Edition, first, decode, records, vertices, at, name_of}
use Rattle.rules.specs.Support.{references, SkipRule, direct_skip}
use Rattle.rules.specs.History.{StepRule}
use Rattle.rules.specs.Decide.{Setting, decisions}
use Rattle.rules.specs.Order.{order}
use Rattle.rules.proofs.Records.{vertices_length, vertices_at}
use Rattle.rules.proofs.Accepted.{Accepted, accepted}
use Rattle.rules.proofs.Support.{references_earlier}
use Rattle.rules.proofs.History.{Downward}
use Rattle.rules.proofs.Decide.{leads}
use Rattle.agreement.specs.Agreement.{Premises, Begins, written, Agree, Demand3}
use Rattle.rules.proofs.Slots.{Geometry, one_leader_lem}
use Rattle.agreement.proofs.World.{World}
use Rattle.agreement.proofs.Table.{TableIn, SkipLaw, setting, blank_law}
use Rattle.agreement.proofs.Joint.{Together, one_in, other_in, alike_in}
use Rattle.agreement.proofs.Prefix.{Ahead, orders}

-- ---- what is asked of a step and of a direct skip

-- A reference is a step, and in a table that passes every step goes to an earlier record.
pub record StepLaw (step : StepRule) : Type 0 where
  pub wider : (v : Vertex) (y : Name) → references v y ≡ true → step v y ≡ true
  pub down : {n : ℕ} {vs : List Vertex} → Accepted n vs → Downward step vs

-- Where it skips, in whatever world, it has a quorum against every vertex of the slot.
pub record Excludes (skip : SkipRule) : Type 1 where
  pub against : {n : ℕ} {step : StepRule} {W : World n step} {vs : List Vertex} (T : TableIn W vs) → SkipLaw T skip

-- ---- two tables in one world

module _ {n : ℕ} {step : StepRule} {W : World n step} {us ws : List Vertex} (T : TableIn W us) (U : TableIn W ws) (S : Slots) (G : Geometry S)
    (skip skip' : SkipRule) (law : SkipLaw T skip) (law' : SkipLaw U skip') where
  abbrev C : Setting
  C = setting S skip step

  abbrev D : Setting
  D = setting S skip' step

  -- The one order begins the other, or the other the one and then the one decides a slot that the other does not.
  pub orders_in : Begins (written C n us) (written D n ws) ⊎ (Begins (written D n ws) (written C n us) × Ahead T U (decisions C n us) (decisions D n ws))
  unfolding order
  orders_in =
      orders T U (decisions C n us) (decisions D n ws) [] [] (λ s p e. (leads C G.later T.accepted s p e).0)
      (λ s p e. (leads D G.later U.accepted s p e).0)
      (alike_in T U S G skip skip' law law') (λ p m. absurd (Memᴰ.not-nil m)) (λ p m. absurd (Memᴰ.not-nil m)) refl

  pub agree_in : Agree C D n us ws
  agree_in = record { alike = alike_in T U S G skip skip' law law'; orders = ⊎_elim inl (λ k. inr k.0) orders_in }

-- ---- two tables as bytes

pub together : {E : Edition} {n : ℕ} {t u : List ℕ} → Premises E n t u → Together n (vertices E t) (vertices E u)
together {E} {n} {t} {u} P = record { one = accepted E n t P.one_passes; other = accepted E n u P.other_passes; same = same; few = P.few }
  where
    same : (p q : ℕ) → p < length (vertices E t) → q < length (vertices E u) → name_of (at (vertices E t) p) ≡ name_of (at (vertices E u) q)
        → at (vertices E t) p ≡ at (vertices E u) q
    same p q lp lq e =
        let kp : p < records E t = rw (← vertices_length E t) lp in
        let kq : q < records E u = rw (← vertices_length E u) lq in
        vertices_at E t p kp ∙ ap (decode E) (P.same_record p q kp kq e) ∙ sym (vertices_at E u q kq)

pub agreement : (S : Slots) (step : StepRule) (skip skip' : SkipRule) → Geometry S → StepLaw step → Excludes skip → Excludes skip'
    → (E : Edition) (n : ℕ) (t u : List ℕ)
    → Premises E n t u → Agree (setting S skip step) (setting S skip' step) n (vertices E t) (vertices E u)
agreement S step skip skip' G L law law' E n t u P =
    let J = together P in
    let T = one_in J step L.wider (L.down J.one) in
    let U = other_in J step L.wider (L.down J.other) in
    agree_in T U S G skip skip' (law.against T) (law'.against U)

-- ---- document 01

pub references_law : StepLaw references
references_law = record { wider = λ v y e. e; down = λ A. references_earlier A }

pub blank_excludes : Excludes direct_skip
blank_excludes = record { against = λ T. blank_law T }

pub demand_3 : Demand3
demand_3 n t u = agreement (one_leader n) references direct_skip direct_skip (one_leader_lem n) references_law blank_excludes blank_excludes first n t u
