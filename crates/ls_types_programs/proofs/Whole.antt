-- Whole texts.
use Rattle.std.specs.Prelude.{slice_get}
use Rattle.std.proofs.Common.{◌≡◌, ℕ, suc, ◌≤◌, refl, sym, ◌∙◌, subst, ap, Bool, true, false, List, [], ◌∷◌, length}
use Rattle.std.proofs.Common.{Option, Some, None, nat_le, leb-true, lit≤, arith, if◌then◌else◌, codes}
use Rattle.std.proofs.lemmas.Bool.{le-leb}
use Rattle.ls_checked.specs.Limits.{most_threads}
use Rattle.ls_lexer.specs.declared.sign.Sign.TheVariants as signs
use Rattle.ls_lexer.specs.Lexemes.{Lexeme, Named, Marked}
use Rattle.ls_lexer.specs.Formed.{IsFormed}
use Rattle.ls_lexer.specs.Tokens.{tokens_of}
use Rattle.ls_lexer.proofs.FormedLaws.{tokens_are_formed}
use Rattle.ls_checked.specs.CheckedProgram.{SetupName, ProgramCall, ThreadProgram, Program}
use Rattle.ls_types_elaboration.specs.Trees.{Text}
use Rattle.ls_types_elaboration.specs.Elaboration.{ElaboratedFile}
use Rattle.ls_types_programs.specs.ThreadPrograms
use Rattle.ls_types_programs.specs.ThreadPrograms.{Stage, Parts, Reading, at, after, ended, whole, beginning}
use Rattle.ls_types_programs.specs.ThreadPrograms.{program_of_tokens, program_of}
use Rattle.ls_types_programs.specs.Spelled as spelled
use Rattle.ls_types_programs.specs.Spelled.{Spells, Threads}
use Rattle.ls_types_programs.specs.Programs.{AreCallsOf, AreThreadsOf, IsProgramOf, IsTextOf}
use Rattle.ls_types_programs.specs.Faults.{AreWhole}
use Rattle.ls_types_programs.specs.Laws.{ReadsWhatIsSpelled, OneProgram}
use Rattle.ls_types_programs.proofs.Pieces.{no_truth, some_none, same_some}
use Rattle.ls_types_programs.proofs.Rest.{RestAfter, RestCalls}
use Rattle.ls_types_programs.proofs.RestInBlocks.{rest_is}
use Rattle.ls_types_programs.proofs.Read.{calls_read, threads_read}

-- a stage that may end a program is the one before a thread
pub ended_is : (s : Stage) → ended s ≡ true → s ≡ ThreadPrograms.AtThread
ended_is ThreadPrograms.AtThread e = refl
ended_is _ e = absurd (no_truth e)

-- ---- what is read is spelled

-- what is read is spelled
pub tokens_spell : (o : ElaboratedFile) (f : Parts) (ks : List Lexeme) →
    ((i : ℕ) (k : Lexeme) → slice_get ks i ≡ Some k → IsFormed k)
    → after o (Some beginning) ks ≡ Some (at f ThreadPrograms.AtThread) →
    AreWhole o (record { names = f.names; threads = f.threads }) ks
tokens_spell o f ks formed e =
    let a : RestAfter (Named (codes "setup")) (RestAfter (Marked signs.OpenBrace) (RestCalls o f beginning.parts)) ks =
    rest_is o f beginning.parts ThreadPrograms.AtSetup ks formed e in
    let h : RestCalls o f beginning.parts a.after.rest = a.after.after in
    let tokens : ks ≡ Named (codes "setup") ∷ Marked signs.OpenBrace ∷ a.after.rest = a.tokens ∙
    ap (λ ls. Named (codes "setup") ∷ ls) a.after.tokens in
    let t : ThreadProgram = record { name = codes "setup"; calls = h.all } in
    let calls : spelled.Calls true f.names h.all a.after.rest h.rest = subst
    (λ cs. spelled.Calls true f.names cs a.after.rest h.rest) (sym h.joined) h.spelled in
    record {
      spelled = subst (λ ls. Spells (record { names = f.names; threads = f.threads }) ls) (sym tokens)
          (subst (λ ts. Spells (record { names = f.names; threads = ts })
          (Named (codes "setup") ∷ Marked signs.OpenBrace ∷ a.after.rest)) (sym h.after.parts)
          (spelled.Whole calls h.after.spelled));
      program = record {
        setup = h.all;
        threads = h.after.ts;
        parts = h.after.parts;
        gives = subst (λ cs. AreCallsOf o true [] cs f.names) (sym h.joined) h.are;
        calls = h.few (lit≤ tt);
        few = at_most (t ∷ h.after.ts) h.after.ts refl (subst (λ ts. length ts ≤ suc most_threads) h.after.parts
            (h.after.few (lit≤ tt)));
        others = h.after.are;
      };
    }
  where
    at_most : (all ts : List ThreadProgram) →
        length all ≡ suc (length ts) →
        length all ≤ suc most_threads →
        length ts ≤ most_threads
    at_most all ts e h = omega (arith, e, h)

read_spells : (o : ElaboratedFile) (text : Text) (f : Parts) (ks : List Lexeme) →
    length text ≤ 262144 →
    tokens_of text ≡ Some ks
    → after o (Some beginning) ks ≡ Some (at f ThreadPrograms.AtThread) →
    IsTextOf o (record { names = f.names; threads = f.threads }) text
read_spells o text f ks short lexed e =
    let h = tokens_spell o f ks (tokens_are_formed text ks lexed) e in
    record { short = short; tokens = ks; lexed = lexed; spelled = h.spelled; program = h.program }

reads : (o : ElaboratedFile) (text : Text) (p : Program) → program_of o text ≡ Some p → IsTextOf o p text
reads o text p e = by_length (nat_le (length text) 262144) refl e
  where
    by_end : (ks : List Lexeme) →
        length text ≤ 262144 →
        tokens_of text ≡ Some ks →
        (q : Reading) →
        after o (Some beginning) ks ≡ Some q
        → (b : Bool) → ended q.stage ≡ b → (if b then Some (record { names = q.parts.names; threads = q.parts.threads })
        else None) ≡ Some p → IsTextOf o p text
    by_end ks short lexed q is false over e = absurd (some_none p e)
    by_end ks short lexed q is true over e =
        subst (λ r. IsTextOf o r text) (same_some (record { names = q.parts.names; threads = q.parts.threads }) p e)
        (read_spells o text q.parts ks short lexed (is ∙ ap (λ s. Some (at q.parts s)) (ended_is q.stage over)))

    by_reading : (ks : List Lexeme) →
        length text ≤ 262144 →
        tokens_of text ≡ Some ks →
        (x : Option Reading) →
        after o (Some beginning) ks ≡ x →
        whole x ≡ Some p →
        IsTextOf o p text
    by_reading ks short lexed None is e = absurd (some_none p e)
    by_reading ks short lexed (Some q) is e = by_end ks short lexed q is (ended q.stage) refl e

    by_tokens : length text ≤ 262144 →
        (x : Option (List Lexeme)) →
        tokens_of text ≡ x →
        program_of_tokens o x ≡ Some p →
        IsTextOf o p text
    by_tokens short None lexed e = absurd (some_none p e)
    by_tokens short (Some ks) lexed e = by_reading ks short lexed (after o (Some beginning) ks) refl e

    by_length : (b : Bool) →
        nat_le (length text) 262144 ≡ b →
        (if b then program_of_tokens o (tokens_of text) else None) ≡ Some p →
        IsTextOf o p text
    by_length false long e = absurd (some_none p e)
    by_length true short e = by_tokens (leb-true (length text) 262144 short) (tokens_of text) refl e

-- ---- and what is spelled is read

spelled_reads : (o : ElaboratedFile) (names : List SetupName) (setup : List ProgramCall) (ts : List ThreadProgram)
    (ks rest : List Lexeme)
    → AreCallsOf o true [] setup names → length setup ≤ 256 → length ts ≤ most_threads
    → AreThreadsOf o names (record { name = codes "setup"; calls = setup } ∷ []) ts →
    spelled.Calls true names setup ks rest → Threads names ts rest
    → program_of_tokens o (Some (Named (codes "setup") ∷ Marked signs.OpenBrace ∷ ks)) ≡ Some
    (record { names = names; threads = record { name = codes "setup"; calls = setup } ∷ ts })
spelled_reads o names setup ts ks rest gives few_calls few are calls threads =
    let t : ThreadProgram = record { name = codes "setup"; calls = setup } in
    let first = calls_read o gives calls [] (codes "setup") [] refl (λ n s e. absurd (some_none s e)) few_calls in
    let next = threads_read o are threads first.1 (lit≤ tt) (one_more few) in
    ap whole (first.0 ∙ next)
  where
    one_more : length ts ≤ most_threads → suc (length ts) ≤ suc most_threads
    one_more h = omega (arith, h)

-- what is spelled is read
pub tokens_read : (o : ElaboratedFile) (p : Program) (ks : List Lexeme) →
    Spells p ks →
    IsProgramOf o p →
    program_of_tokens o (Some ks) ≡ Some p
tokens_read o p ks (spelled.Whole {names = names} {calls = calls} {ts = ts} {ks = ls} {rest = rest} cs more) h =
    let is : record { name = codes "setup"; calls = calls } ∷ ts ≡ record { name = codes "setup"; calls = h.setup } ∷
    h.threads = h.parts in
    let e = parts_are calls h.setup ts h.threads is in
    spelled_reads o names calls ts ls rest
    (subst (λ cs. AreCallsOf o true [] cs names) (sym e.0) h.gives)
    (subst (λ (cs : List ProgramCall). length cs ≤ 256) (sym e.0) h.calls)
    (subst (λ (us : List ThreadProgram). length us ≤ most_threads) (sym e.1) h.few)
    (subst (λ cs. AreThreadsOf o names (record { name = codes "setup"; calls = cs } ∷ []) ts) (sym e.0)
    (subst (λ us. AreThreadsOf o names (record { name = codes "setup"; calls = h.setup } ∷ []) us) (sym e.1)
    h.others))
    cs more
  where
    first_calls : List ThreadProgram → List ProgramCall
    first_calls [] = []
    first_calls (t ∷ ts) = t.calls

    all_but_first : List ThreadProgram → List ThreadProgram
    all_but_first [] = []
    all_but_first (t ∷ ts) = ts

    parts_are : (a b : List ProgramCall) (ts us : List ThreadProgram) →
        record { name = codes "setup"; calls = a } ∷ ts ≡ record { name = codes "setup"; calls = b } ∷ us →
        (a ≡ b) × (ts ≡ us)
    parts_are a b ts us e = (ap first_calls e, ap all_but_first e)

is_read : (o : ElaboratedFile) (text : Text) (p : Program) → IsTextOf o p text → program_of o text ≡ Some p
is_read o text p h =
    ap (λ b. if b then program_of_tokens o (tokens_of text) else None) (le-leb (length text) 262144 h.short)
    ∙ ap (program_of_tokens o) h.lexed
    ∙ tokens_read o p h.tokens h.spelled h.program

-- the law: exactly the programs that are spelled are read
pub reads_what_is_spelled : ReadsWhatIsSpelled
reads_what_is_spelled o text p = (reads o text p, is_read o text p)

-- the law: a text has at most one program
pub one_program : OneProgram
one_program o text p q h k = same_some p q (sym (is_read o text p h) ∙ is_read o text q k)
