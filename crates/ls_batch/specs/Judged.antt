-- The text of a tally with what there is to say of each history.
use Rattle.std.specs.Prelude.{◌≡◌, List, [], ◌∷◌, ◌++◌, All, codes}
use Rattle.std.specs.Fmt.{decimal}
use Rattle.std.specs.List.{AllZip}
use Rattle.ls_events.specs.declared.event.Event.{Event}
use Rattle.ls_checked.specs.CheckedTree.{File}
use Rattle.ls_checked.specs.CheckedProgram.{Program}
use Rattle.ls_report.specs.Events.{Text}
use Rattle.ls_report.specs.Printing.{run_text}
use Rattle.ls_batch.specs.Tallies.{Row}
use Rattle.ls_linearity.specs.Meant.{IsMeant}
use Rattle.ls_verdicts.specs.Verdicts.{IsHistoryOf, IsVerdict}
use Rattle.ls_verdicts.specs.declared.verdicts.Verdict.TheVariants as verdicts
use Rattle.ls_batch.specs.Words.{beside_text, first_text}
use Rattle.ls_batch.specs.declared.judging.Judgement.{Judgement}

-- the events of each row's history have names, and are a history with these
abbrev pub AreHistoriesOf : Program → List Row → Type 0
AreHistoriesOf p rows = All (λ r. IsHistoryOf p r.history) rows

-- The verdict on set calls, and whether the history is linearizable to its program. If that is not known, there is the
-- reason.
pub record IsJudgement (file : File) (p : Program) (run : List Event) (said : Judgement) : Type 0 where
  pub verdict : IsVerdict p run said.verdict
  pub linear : IsMeant file p run said.linearity

-- The same by a reference, a program of a file of its own: set calls aren't judged apart, and the history is
-- linearizable to the reference.
pub record IsJudgementLike (sfile : File) (sprogram : Program) (run : List Event) (said : Judgement) : Type 0 where
  pub verdict : said.verdict ≡ verdicts.NotOneSet
  pub linear : IsMeant sfile sprogram run said.linearity

-- each row has one that may be said of its history
abbrev pub AreSaid : (List Event → Judgement → Type 0) → List Row → List Judgement → Type 0
AreSaid May rows said = AllZip (λ (r : Row) s. May r.history s) rows said

abbrev pub AreJudgements : File → Program → List Row → List Judgement → Type 0
AreJudgements file p rows said = AreSaid (IsJudgement file p) rows said

abbrev pub AreJudgementsLike : File → Program → List Row → List Judgement → Type 0
AreJudgementsLike sfile sprogram rows said = AreSaid (IsJudgementLike sfile sprogram) rows said

-- as `seed 7 count 3 illegal, not linearizable`, with its line feed
abbrev pub judged_head_text : Row → Judgement → Text
judged_head_text r s = codes "seed " ++ (decimal r.seed ++ (codes " count " ++ (decimal r.count ++
    (32 ∷ (first_text s.verdict s.linearity ++ (beside_text s.verdict s.linearity ++ 10 ∷ []))))))

-- the line with the least seed, the count and the words, the history's lines, an empty line
abbrev pub judged_entry_text : Program → Row → Judgement → Text
judged_entry_text p r s = judged_head_text r s ++ (run_text p r.history ++ 10 ∷ [])

-- of as many rows as judgements
abbrev pub judged_text : Program → List Row → List Judgement → Text
judged_text p [] said = []
judged_text p (r ∷ rows) [] = []
judged_text p (r ∷ rows) (s ∷ said) = judged_entry_text p r s ++ judged_text p rows said

-- the text of the rows with what may be said of each
pub record IsSaid (May : List Event → Judgement → Type 0) (p : Program) (rows : List Row) (text : Text) : Type 0 where
  pub said : List Judgement
  pub are : AreSaid May rows said
  pub text_is : text ≡ judged_text p rows said

abbrev pub IsJudged : File → Program → List Row → Text → Type 0
IsJudged file p rows text = IsSaid (IsJudgement file p) p rows text

-- the same by a reference
abbrev pub IsJudgedLike : File → Program → Program → List Row → Text → Type 0
IsJudgedLike sfile sprogram p rows text = IsSaid (IsJudgementLike sfile sprogram) p rows text
