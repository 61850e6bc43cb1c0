-- `lines::put_numbers` meets its contract: a turn puts one number more, in the library's digits.
-- Assumes nothing.
use Rattle.std.proofs.Common.{◌≡◌, ◌∷◌, ◌∙◌, get_or, arith, length-append}
use Rattle.std.proofs.lemmas.List.{flat_map_more, take_more}
use Rattle.lines.proofs.Decimal.{printed_is}
use Rattle.rules.specs.Program.{decimal}
use Rattle.lines.proofs.put_numbers.Goals as goal

pub loop-x-preserved : goal.loop-x-preserved
loop-x-preserved c =
    let l = c.loop-x in
    let xs = c.args.numbers.now in
    let x = get_or xs l.x-index 0 in
    let digits : c.format.result.now ≡ decimal x = c.format.ensures.text ∙ printed_is x (omega (arith, c.type_inv.numbers l.x-index)) in
    record {
      bytes =
          c.put_word.ensures
          ∙ rw (l.invariant.bytes, digits, take_more xs l.x-index 0 (omega arith)) (flat_map_more (λ n. 32 ∷ decimal n) c.args.l.now.bytes _ x);
      few = rw (c.put_word.ensures, length-append) (omega (arith, c.format.ensures.fits, l.invariant.few));
    }
