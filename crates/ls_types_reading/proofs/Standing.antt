-- The faults that are answered are at their places in the text.
use Rattle.std.proofs.Common.{◌≡◌, ℕ, ◌<◌, length, refl, sym, ◌∙◌, subst, List, Option, Some, None}
use Rattle.std.specs.Prelude.{option_map}
use Rattle.ls_lexer.specs.Lexemes.{lexemes}
use Rattle.ls_lexer.specs.Places.{InOrder, Refused}
use Rattle.ls_lexer.specs.Tokens.{tokens_of}
use Rattle.ls_lexer.specs.declared.token.Token.{Token}
use Rattle.ls_lexer.specs.declared.fault.TextFault.TheVariants as texts
use Rattle.ls_types_elaboration.specs.Trees.{Text}
use Rattle.ls_types_elaboration.specs.Elaboration.{ElaboratedFile}
use Rattle.ls_checked.specs.CheckedProgram.{Program}
use Rattle.ls_types_programs.specs.Programs.{IsTextOf}
use Rattle.ls_types_programs.specs.ThreadPrograms.{beginning, program_of}
use Rattle.ls_types_programs.proofs.Whole.{reads_what_is_spelled}
use Rattle.ls_types_programs.specs.Stops.{Fault, Bad, Unknown, References, Past, stops, unmarked}
use Rattle.ls_types_programs.specs.Refusals.{IsBadAt, NoToken, PassesLimit, Bytes}
use Rattle.ls_types_programs.proofs.Pieces.{some_none, same_some}
use Rattle.ls_types_programs.proofs.ShownFaults.{Shown}
use Rattle.ls_types_programs.proofs.Stopping.{stops_show}
use Rattle.ls_types_checked.specs.declared.fault.ProgramFault.{ProgramFault}
use Rattle.ls_types_checked.specs.declared.fault.ProgramFault.TheVariants as faults
use Rattle.ls_types_checked.specs.ProgramViews.{fault_seen, Refuses}
use Rattle.ls_types_checked.specs.ProgramRefusals.{Stands, IsNoProgram}

-- a byte that begins no token is bad
pub bad_byte : (o : ElaboratedFile) (text : Text) (at : ℕ) → Refused text (texts.BadByte at) → IsBadAt o text at
bad_byte o text at h = NoToken (texts.BadByte at) h.0 h.1

-- a comment without an end is bad
pub open_comment : (o : ElaboratedFile) (text : Text) (at : ℕ) → Refused text (texts.OpenComment at) → IsBadAt o text at
open_comment o text at h = NoToken (texts.OpenComment at) h.0 h.1

-- a number that is too large is bad
pub bad_number : (o : ElaboratedFile) (text : Text) (at : ℕ) → Refused text (texts.BadNumber at) → IsBadAt o text at
bad_number o text at h = NoToken (texts.BadNumber at) h.0 h.1

-- a text that is too long passes a limit
pub too_long : (o : ElaboratedFile) (text : Text) → 262144 < length text → PassesLimit o text
too_long o text h = Bytes h

plain_stands : (o : ElaboratedFile) (text : Text) (f : Fault) → Shown o text f → Stands o text (fault_seen f)
plain_stands o text (Bad at) h = h
plain_stands o text (Unknown at) h = h
plain_stands o text (References at) h = h
plain_stands o text Past h = h

-- a program that is read is spelled by the text
pub program_spelled : (o : ElaboratedFile) (text : Text) (p : Program) → program_of o text ≡ Some p → IsTextOf o p text
program_spelled o text p e = (reads_what_is_spelled o text p).0 e

-- a fault at which the reading stops stands in the text
pub program_stands : (o : ElaboratedFile) (text : Text) (ts : List Token) (e : ProgramFault) →
    tokens_of text ≡ Some (lexemes ts) →
    InOrder text 0 ts (length text)
    → option_map fault_seen (stops o (length text) unmarked beginning ts) ≡ Some e → Stands o text e
program_stands o text ts e lexed spans is = by (stops o (length text) unmarked beginning ts) (stops_show o text ts) is
  where
    by : (x : Option Fault) →
        ((f : Fault) → tokens_of text ≡ Some (lexemes ts) → InOrder text 0 ts (length text) → x ≡ Some f →
        Shown o text f) →
        option_map fault_seen x ≡ Some e →
        Stands o text e
    by None h is = absurd (some_none e is)
    by (Some f) h is = subst (Stands o text) (same_some (fault_seen f) e is)
        (plain_stands o text f (h f lexed spans refl))

-- what isn't read is spelled by no program of the file
none_spelled : (o : ElaboratedFile) (text : Text) → program_of o text ≡ None → (p : Program) → IsTextOf o p text → ⊥
none_spelled o text none p is = (let some : program_of o text ≡ Some p = (reads_what_is_spelled o text p).1 is in
    let no : None ≡ Some p = sym none ∙ some in cc)

-- if a text is refused and its fault stands, no program has that text, or memory is out
pub no_program : (o : ElaboratedFile) (text : Text) (f : ProgramFault) →
    Refuses f (program_of o text) →
    Stands o text f →
    IsNoProgram o text f
no_program o text faults.Memory r s = record { none = tt; stands = s }
no_program o text (faults.BadProgram at) r s = record { none = none_spelled o text r; stands = s }
no_program o text (faults.UnknownThing at) r s = record { none = none_spelled o text r; stands = s }
no_program o text (faults.ReferenceResult at) r s = record { none = none_spelled o text r; stands = s }
no_program o text faults.ProgramLimit r s = record { none = none_spelled o text r; stands = s }
