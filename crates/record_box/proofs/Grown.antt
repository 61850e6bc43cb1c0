-- A read into the rest of a buffer: what stands at the front then is what the reader lost before it and in it.
-- Assumes nothing.
use Rattle.std.proofs.Common.{◌≡◌, ℕ, ◌+◌, ◌≤◌, List, ◌++◌, Option, length, take, sym, ap, ◌∙◌, subst, length-take-le}
use Rattle.std.proofs.lemmas.List.{take-append-le}
use Rattle.std.proofs.Math.Seq.{take-append-add}
use borrow.Rule.Slice.PartMut.{put_mid, post_of}
use Rattle.std.specs.Io.KnownBytes.{Consumes}
use Rattle.std.proofs.KnownBytes.{Consumes-trans}

front_grown : (buf part : List ℕ) (i k n : ℕ) → i ≤ length buf → n ≤ length part → take (i + n) (put_mid i k buf part) ≡ take i buf ++ take n part
front_grown buf part i k n within fits =
    ap (λ m. take (m + n) (put_mid i k buf part)) (sym (length-take-le i buf within))
    ∙ take-append-add (take i buf) (part ++ post_of i k buf) n
    ∙ ap (λ l. take i buf ++ l) (take-append-le n part (post_of i k buf) fits)

pub consumed_more : (a b c : Option (List ℕ)) (buf part : List ℕ) (i k n : ℕ) → i ≤ length buf → n ≤ length part
    → Consumes a b (take i buf) → Consumes b c (take n part) → Consumes a c (take (i + n) (put_mid i k buf part))
consumed_more a b c buf part i k n within fits before read =
    subst (Consumes a c) (sym (front_grown buf part i k n within fits)) (Consumes-trans a b c _ _ before read)
