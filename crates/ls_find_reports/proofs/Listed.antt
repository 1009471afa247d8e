-- Reports that are read, one after the other.
use Rattle.std.proofs.Common.{◌≡◌, ◌∙◌, ◌+◌, ◌<◌, ℕ, List, [], ◌∷◌, ◌++◌, length, refl, sym, ap, subst, arith}
use Rattle.std.proofs.Common.{append_assoc, append-nil}
use Rattle.std.proofs.lemmas.List.{length-append}
use Rattle.ls_report.specs.Events.{Text}
use Rattle.ls_find_reports.specs.Reports.{BreaksAt, Ends, Entry, IsReport, Lists, mark, Marked, Report, report_text}

-- one more at the end
lists_more : (read : Text) (reports : List Report) (r : Report) →
    Lists read reports →
    IsReport r →
    Lists (read ++ report_text r) (reports ++ r ∷ [])
lists_more read reports r Ends is = subst (λ t. Lists t (r ∷ [])) (append-nil (report_text r)) (Entry r [] [] is Ends)
lists_more read reports r (Marked after more l) is = Marked (after ++ report_text r) (more ++ r ∷ [])
    (lists_more after more r l is)
lists_more read reports r (Entry s after more it l) is =
    subst (λ t. Lists t (s ∷ (more ++ r ∷ []))) (sym (append_assoc (report_text s) after (report_text r)))
    (Entry s (after ++ report_text r) (more ++ r ∷ []) it (lists_more after more r l is))

lists_mark : (read : Text) (reports : List Report) → Lists read reports → Lists (read ++ mark) reports
lists_mark read reports Ends = Marked [] [] Ends
lists_mark read reports (Marked after more l) = Marked (after ++ mark) more (lists_mark after more l)
lists_mark read reports (Entry s after more it l) =
    subst (λ t. Lists t (s ∷ more)) (sym (append_assoc (report_text s) after mark))
    (Entry s (after ++ mark) more it (lists_mark after more l))

-- the reports are those of what is read
pub record IsReading (text rest : Text) (reports : List Report) : Type 0 where
  pub read : Text
  pub parts : text ≡ read ++ rest
  pub lists : Lists read reports

pub starts : (text : Text) → IsReading text text []
starts text = record { read = []; parts = refl; lists = Ends }

pub past_mark : (text rest after : Text) (reports : List Report) →
    IsReading text rest reports →
    rest ≡ mark ++ after →
    IsReading text after reports
past_mark text rest after reports i e = record {
  read = i.read ++ mark;
  parts = i.parts ∙ ap (λ t. i.read ++ t) e ∙ sym (append_assoc i.read mark after);
  lists = lists_mark i.read reports i.lists;
}

pub past_report : (text rest after : Text) (reports : List Report) (r : Report) →
    IsReading text rest reports →
    rest ≡ report_text r ++ after →
    IsReport r →
    IsReading text after (reports ++ r ∷ [])
past_report text rest after reports r i e is = record {
  read = i.read ++ report_text r;
  parts = i.parts ∙ ap (λ t. i.read ++ t) e ∙ sym (append_assoc i.read (report_text r) after);
  lists = lists_more i.read reports r i.lists is;
}

pub all_read : (text rest : Text) (reports : List Report) → IsReading text rest reports → rest ≡ [] → Lists text reports
all_read text rest reports i e =
    subst (λ t. Lists t reports) (sym (i.parts ∙ ap (λ t. i.read ++ t) e ∙ append-nil i.read)) i.lists

-- where neither a line `%%` nor a report stands
pub record IsStopped (rest : Text) : Type 0 where
  pub some : 0 < length rest
  pub no_mark : (after : Text) → rest ≡ mark ++ after → ⊥
  pub no_report : (r : Report) (after : Text) → IsReport r → rest ≡ report_text r ++ after → ⊥

pub breaks : (text rest : Text) (reports : List Report) (at : ℕ) →
    IsReading text rest reports →
    IsStopped rest →
    at + length rest ≡ length text →
    BreaksAt text at
breaks text rest reports at i s place =
    record {
      read = i.read;
      rest = rest;
      reports = reports;
      lists = i.lists;
      parts = i.parts;
      place = omega (arith, ap length i.parts, length-append i.read rest);
      goes_on = s.some;
      no_mark = s.no_mark;
      no_report = s.no_report;
    }
