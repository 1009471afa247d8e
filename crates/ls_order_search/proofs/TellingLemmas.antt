-- The line of an event, found in the text of its history.
use Rattle.std.proofs.Common.{◌≡◌, ◌∙◌, ◌+◌, ◌<◌, ◌≤◌, ◌^◌, ℕ, List, [], ◌∷◌, ◌++◌, length, drop, get_or, map, Some}
use Rattle.std.proofs.Common.{Result, Ok, Err, sym, ap, subst, arith, string_bytes, String, Global}
use Rattle.std.specs.Prelude.{slice_get}
use Rattle.std.specs.Global.{Vec}
use Rattle.std.proofs.lemmas.List.{drop_more, length-append}
use Rattle.std.proofs.lemmas.Option.{slice_get-get_or, slice_get_within}
use Rattle.ls_report.specs.Cut.{cut}
use Rattle.ls_report.specs.Events.{Event, Text}
use Rattle.ls_report.specs.Lines.{event_text, history_text, line}
use Rattle.ls_report.specs.Reading.{Explains, Says}
use Rattle.ls_report.specs.declared.fault.HistoryFault.{HistoryFault}
use Rattle.ls_report.specs.declared.fault.HistoryFault.TheVariants as history_faults
use Rattle.ls_report.proofs.Histories.{line_cut}
use Rattle.ls_order_search.specs.Answers.{IsOutcome}
use Rattle.ls_order_search.specs.Faults.{lifted_history}
use Rattle.ls_order_search.specs.OrderLines.{order_line}
use Rattle.ls_order_search.specs.Telling.{Foreign, GivesText, Hopeless, Legal, ManyTrapped, NoHistory, Tells}
use Rattle.ls_order_search.specs.Telling.{foreign_text}
use Rattle.ls_order_search.specs.Telling.{hopeless_text}
use Rattle.ls_order_search.specs.declared.fault.SearchFault.{SearchFault}
use Rattle.ls_order_search.specs.declared.fault.SearchFault.TheVariants as faults
use Rattle.ls_order_search.specs.declared.judging.OrderAnswer.TheVariants as outcomes
use Rattle.ls_order_search.proofs.Names.{number_at, well_formed_at}

-- a line for each event, with a byte at least
no_longer : (es : List Event) → length es ≤ length (history_text es)
no_longer [] = omega arith
no_longer (e ∷ es) =
    let more = no_longer es in
    let whole = length-append (line e) (history_text es) in
    let one = length-append (event_text e) (10 ∷ []) in
    omega arith

-- the text from an event on, cut at its line's end
pub cut_there : (text : Text) (es : List Event) (i : ℕ) (e : Event) →
    length text < 2 ^ 64 →
    Says text es →
    slice_get es i ≡ Some e →
    cut 10 (history_text (drop i es)) ≡ Some (event_text e, history_text (drop (i + 1) es))
cut_there text es i e small says at =
    let within = slice_get_within es i e at in
    let is : e ≡ get_or es i e = some_of (sym (slice_get-get_or es i e within) ∙ at) in
    let split : history_text (drop i es) ≡ line e ++ history_text (drop (i + 1) es) = ap history_text
    (drop_more es i e within ∙ ap (λ x. x ∷ drop (i + 1) es) (sym is)) in
    let low = number_at es i e says.history at in
    let short = no_longer es in
    let same = ap length says.lines in
    ap (cut 10) split ∙ line_cut e (history_text (drop (i + 1) es)) (well_formed_at es i e says.history at)
    (omega arith)
  where
    some_of : {x y : Event} → Some x ≡ Some y → y ≡ x
    some_of k = cc

-- after one more line
pub cut_next : (text rest : Text) (es : List Event) (i : ℕ) (next : Text) →
    length text < 2 ^ 64 →
    Says text es →
    i < length es →
    rest ≡ history_text (drop i es)
    → ((l after : Text) → cut 10 rest ≡ Some (l, after) → next ≡ after) → next ≡ history_text (drop (i + 1) es)
cut_next text rest [] i next small says lt is f = absurd (omega arith)
cut_next text rest (d ∷ es) i next small says lt is f =
    let e = get_or (d ∷ es) i d in
    f (event_text e) (history_text (drop (i + 1) (d ∷ es))) (ap (cut 10) is ∙
    cut_there text (d ∷ es) i e small says (slice_get-get_or (d ∷ es) i d lt))

event_at : (es : List Event) (i : ℕ) → i < length es → (e : Event) × (slice_get es i ≡ Some e)
event_at [] i lt = absurd (omega arith)
event_at (d ∷ es) i lt = (get_or (d ∷ es) i d, slice_get-get_or (d ∷ es) i d lt)

-- ---- the verdict as text

abbrev pub Failed : SearchFault → Result (String Global) SearchFault
Failed f = Err f

-- a text that is no history
pub no_history : (text : Text) (f : HistoryFault) → Explains text f → GivesText (Tells text) (Failed (lifted_history f))
no_history text history_faults.Memory h = tt
no_history text (history_faults.BadHistory at) h = NoHistory at h

module _ (text : Text) (h : List Event) (says : Says text h) where
  -- a history with a call of another kind
  pub foreign_told : (call : String Global) (told : Text) →
      IsOutcome h (outcomes.NotOneSet call) →
      told ≡ foreign_text (string_bytes call) →
      Tells text (Ok told)
  foreign_told call told o e = subst (λ t. Tells text (Ok t)) (sym (e ∙ ap foreign_text o.2)) (Foreign h o.0 says o.1)

  -- a history with too many trapped calls on an item
  pub many_told : IsOutcome h outcomes.TooManyTrapped → Tells text (Err faults.TooManyTrapped)
  many_told o = ManyTrapped h says o.0 o.1

  -- a history with a legal order
  pub legal_told : (order : Vec (String Global)) (told : Text) →
      IsOutcome h (outcomes.Legal order) →
      told ≡ order_line (map string_bytes order.items) →
      Tells text (Ok told)
  legal_told order told o e = subst (λ t. Tells text (Ok t)) (sym e)
      (Legal h (map string_bytes order.items) says o.0 o.1)

  -- a history without a legal order from an event on
  pub hopeless_told : (at : ℕ) (order : Vec (String Global)) (told line : Text) →
      IsOutcome h (outcomes.Hopeless at order)
      → ((events : List Event) (e : Event) → Says text events → slice_get events at ≡ Some e → line ≡ event_text e)
      → told ≡ hopeless_text at line (map string_bytes order.items) → Tells text (Ok told)
  hopeless_told at order told line o at_line e =
      let found = event_at h at o.1.within in
      subst (λ t. Tells text (Ok t))
      (sym (e ∙ ap (λ l. hopeless_text at l (map string_bytes order.items)) (at_line h found.0 says found.1)))
      (Hopeless h at found.0 (map string_bytes order.items) says o.0 o.1 found.1 o.2)
