-- Why `push` in src/kept.rt keeps its clause `kept`.

use Rattle.std.proofs.Common.{◌∙◌, ◌+◌, ap, length, refl}
use Rattle.ls_java_output.specs.Lines.{ends_in}
use Rattle.ls_java_output.proofs.LineLemmas.{kept_more}
use Rattle.ls_java_output.proofs.kept.push.Goals as goal

pub returns-clause-kept : goal.returns-clause-kept
returns-clause-kept c =
    kept_more c.args.source.text.now (length c.args.source.tokens.now) c.args.page.now _ c.args.more.now c.requires
    c.in_ok-push_str.ensures.bytes
    (ap (λ n. c.args.page.now.line + n) (c.feeds.ensures ∙ ap ends_in c.as_bytes.ensures.value)) refl refl
