-- Why `all_text` in src/printing.rt keeps its contract and its loop `part`.

use Rattle.std.proofs.Common.{◌∙◌, ◌++◌, ap, map-id, string_bytes, subst, sym}
use Rattle.std.proofs.lemmas.Iterator.Adapters.{YieldsList-from_vec}
use Rattle.std.proofs.lemmas.Iterator.Consumers.{YieldsList-end}
use Rattle.std.specs.declared.alloc.AllocError.{AllocError}
use Rattle.ls_batch.proofs.Printed.{IsText, more_text, no_text}
use Rattle.ls_batch.proofs.printing.all_text.Goals as goal

pub loop-part-init : goal.loop-part-init
loop-part-init c = no_text AllocError string_bytes _ c.new-out.ensures.bytes

pub loop-part-preserved : goal.loop-part-preserved
loop-part-preserved c =
    more_text string_bytes _ _ c.in_ok-text.text (string_bytes c.loop-part.out) _ c.loop-part.invariant c.in_ok-text.was
    (c.in_ok-push_str.ensures.bytes ∙ ap (λ t. string_bytes c.loop-part.out ++ t) c.as_str.ensures.value)

pub returns : goal.returns
returns c =
    let gives = c.into_iter-part-iterator.ensures.into_iter_gives in
    let end = YieldsList-end (YieldsList-from_vec c.args.parts.items gives.0 (gives.1 ∙ c.args.parts.ok.0))
    c.loop-part.yielded c.loop-part.part-iterator c.loop-part.yielded_by c.next.result c.next.new.self
    c.in-None.is c.next.ensures.steps in
    subst (λ parts. IsText string_bytes parts (string_bytes c.loop-part.out)) (sym (map-id c.loop-part.yielded) ∙ end.0)
    c.loop-part.invariant
