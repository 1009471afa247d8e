-- Why `written_calls` in src/writing.rt keeps its contract and its loop.
use Rattle.std.proofs.Common.{◌≡◌, ◌+◌, List, Some, length, sym, ap, ◌∙◌, subst}
use Rattle.std.specs.Prelude.{slice_get}
use Rattle.std.proofs.lemmas.Option.{slice_get-get_or}
use Rattle.ls_progress.specs.declared.judging.CallEnds.{CallEnds}
use Rattle.ls_schedule.specs.Reading.{thread_names}
use Rattle.ls_end_reports.specs.Written.{IsWritten}
use Rattle.ls_end_reports.specs.declared.writing.CallText.{CallText}
use Rattle.ls_end_reports.proofs.Pushed.{item_of, length_more, some_is}
use Rattle.ls_end_reports.proofs.writing.written_calls.Goals as goal

pub loop-ends-preserved : goal.loop-ends-preserved
loop-ends-preserved c =
    let names = thread_names c.args.program.now in
    let calls : List CallEnds = c.args.calls.now in
    let index = c.loop-ends.ends-index in
    let item : CallEnds = c.ends-item.result in
    let text : CallText = c.in_ok-text.text in
    let old : List CallText = c.loop-ends.texts.items in
    let there : slice_get calls index ≡ Some item =
    slice_get-get_or calls index item c.loop-ends-test.true ∙ ap Some (sym c.ends-item.is) in
    record {
      many = ap length c.in_ok-push.ensures.items ∙ length_more old text ∙ ap (λ n. n + 1) c.loop-ends.invariant.many;
      each = λ i e w here told.
          item_of old text w i (ap (λ (l : List CallText). slice_get l i) (sym c.in_ok-push.ensures.items) ∙ told)
          (λ before. c.loop-ends.invariant.each i e w here before)
          (λ at same. subst (IsWritten names e) same
          (subst (λ (x : CallEnds). IsWritten names x text)
          (some_is (sym there ∙ ap (slice_get calls) (sym (at ∙ c.loop-ends.invariant.many)) ∙ here))
          c.in_ok-text.ensures));
    }
