-- The loop of `tags::count_tagged`: c of the bytes before this one have the tag.
-- Assumes nothing.
use Rattle.std.proofs.Common.{◌≡◌, ◌%◌, ◌≤◌, eqb, take, count_by}
use Rattle.decide.proofs.tags.count_tagged.Given as goal

abbrev pub invariant-loop-b : goal.invariant-loop-b
invariant-loop-b l = record {
  small : l.c ≤ l.b-index;
  counted : l.c ≡ count_by (λ b. eqb (b % 128) l.tag) (take l.b-index l.bytes);
}
