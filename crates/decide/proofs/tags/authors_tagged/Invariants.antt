-- The loop of `tags::authors_tagged`: c of the first a authors have a vertex of the round with the tag, and `from` is where those of author a
-- begin.
-- Assumes nothing.
use Rattle.std.proofs.Common.{◌≡◌, ◌≤◌}
use Rattle.folds.specs.Folds.{count_to}
use Rattle.decide.specs.Ready.{vertices_of}
use Rattle.decide.specs.Range.{start_of}
use Rattle.decide.proofs.Tagging.{author_tagged}
use Rattle.decide.proofs.tags.authors_tagged.Given as goal

abbrev pub invariant-loop-a : goal.invariant-loop-a
invariant-loop-a l = record {
  small : l.c ≤ l.a;
  counted : l.c ≡ count_to (author_tagged (vertices_of l.t.table.now) l.round l.tag l.work) l.a;
  begins : l.from ≡ start_of (vertices_of l.t.table.now) l.round l.a;
}
