-- A promise that has one result. Each crate says it of its public functions in its own `proofs/Unique.antt`.
-- Assumes nothing.
use Prim.Native.Nat.{ℕ}
use mathlib.Core.List.{List}
use contract.Lifetimes.{Lfts}
use denote.Triple.Clauses.{AtExit}
use borrow.Fn.Kinds.{ParamKind, ResultKind, Out, Dens, res_t, ended_of}

-- Two results that meet a promise at the same arguments, and what the parameters hold then, are the same in the sense of S.
abbrev pub Only : (n : ℕ) (ps : List (ParamKind n)) (r : ResultKind n)
    → ((κs : Lfts n) → (res_t r κs).Denot → AtExit (ended_of n ps r) κs → (res_t r κs).Denot → AtExit (ended_of n ps r) κs → Type 0)
    → Out n ps r → Type 0
Only n ps r S promise = (κs : Lfts n) (a : Dens κs ps) (x y : (res_t r κs).Denot) (e f : AtExit (ended_of n ps r) κs)
    → promise κs a x e → promise κs a y f → S κs x e y f
