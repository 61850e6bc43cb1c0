-- The highest round is that of the last record.
-- Assumes nothing.
use Prim.Native.Nat.{ℕ, pred, ◌-◌}
use mathlib.Core.Path.{◌≡◌, ap, ◌∙◌}
use mathlib.Core.Logic.{◌≢◌}
use mathlib.Core.List.{List}
use native.Mathlib.Omega.{arith}
use lib.ListN.{length, get_or-eq_default}
use Rattle.rules.specs.declared.Vertex.{Vertex}
use Rattle.rules.specs.Record.{first, records, vertices, no_vertex, at}
use Rattle.rules.specs.Decide.{highest}
use Rattle.rules.proofs.Records.{vertices_length, vertices_at}
use Rattle.search.specs.Search.{name_at}

pub highest_empty : (t : List ℕ) → records first t ≡ 0 → highest (vertices first t) ≡ 0
unfolding highest
highest_empty t e = ap (λ (v : Vertex). v.round) (get_or-eq_default (vertices first t) no_vertex (omega (arith, vertices_length first t)))

pub highest_last : (t : List ℕ) (k : ℕ) → k ≡ records first t → k ≢ 0 → highest (vertices first t) ≡ (name_at t (k - 1)).round
unfolding highest
highest_last t k e z =
    let last : pred (length (vertices first t)) ≡ k - 1 = omega (arith, vertices_length first t) in
    ap (λ (j : ℕ). (at (vertices first t) j).round) last ∙ ap (λ (v : Vertex). v.round) (vertices_at first t (k - 1) (omega arith))
