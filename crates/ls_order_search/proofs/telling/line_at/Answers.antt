-- Why `line_at` in src/telling.rt keeps its contract and its loop `past`.

use Rattle.std.proofs.Common.{◌≡◌, ◌∙◌, ap, arith, drop, rules}
use Rattle.std.proofs.lemmas.Option.{slice_get_within}
use Rattle.ls_report.specs.Cut.{cut}
use Rattle.ls_report.specs.Lines.{history_text}
use Rattle.ls_order_search.proofs.TellingLemmas.{cut_next, cut_there}
use Rattle.ls_order_search.proofs.telling.line_at.Goals as goal

pub loop-past-init : goal.loop-past-init
loop-past-init c = (search rules, λ events says within. says.lines)

pub loop-past-preserved : goal.loop-past-preserved
loop-past-preserved c = (
  search rules,
  λ events says within.
      cut_next c.args.text.now c.loop-past.rest.now events c.loop-past.past c.after_line-rest.result.now (omega arith)
      says (omega arith) (c.loop-past.invariant.1 events says within) c.after_line-rest.ensures,
)

pub returns : goal.returns
returns c = λ events e says there.
    let within = slice_get_within events c.args.at e there in
    let same = c.loop-past.invariant.1 events says (omega arith) in
    let last : c.loop-past.past ≡ c.args.at = omega arith in
    c.first_line.ensures _ _ (ap (cut 10) (same ∙ ap (λ n. history_text (drop n events)) last) ∙
    cut_there c.args.text.now events c.args.at e (omega arith) says there)
