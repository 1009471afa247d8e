-- Why `is_call_of` in src/placing.rt keeps its contract.

use Rattle.std.proofs.Common.{◌≡◌, ◌==◌, ◌++◌, ◌∙◌, ap, append_assoc, codes}
use Rattle.std.specs.List.{starts_with}
use Rattle.std.proofs.lemmas.Str.Pattern.{starts_text}
use Rattle.ls_class_programs.specs.Placing.{begun}
use Rattle.ls_class_programs.proofs.placing.is_call_of.Goals as goal

pub returns : goal.returns
returns c =
    let name = c.args.name.now in
    let same : c.as_str.result.now ≡ begun name = c.as_str.ensures.value ∙ c.in_ok-push_str-2.ensures.bytes
    ∙ ap (λ t. t ++ codes "(") (c.in_ok-push_str.ensures.bytes ∙ ap (λ t. t ++ name) c.in_ok-begun.ensures.ok)
    ∙ append_assoc (codes "s.") name (codes "(") in
    starts_text c.starts_with.result c.as_str.result.now c.args.call.now c.starts_with.ensures.cases
    ∙ ap (λ t. starts_with ◌==◌ c.args.call.now t) same
