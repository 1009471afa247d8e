-- Why `read_words` in src/words.rt keeps its contract.

use Rattle.std.proofs.Common.{◌≡◌, ◌∙◌, ap, sym, refl, inl, inr, true, [], ◌∷◌, map, Some, None}
use Rattle.std.specs.Prelude.{string_bytes}
use Rattle.clap.specs.Words.{App, HasKind, Kinds, fault_of, is_simple, is_simple_and_free, kind_of, subcommand_of}
use Rattle.clap.specs.declared.builder.value_parser.ValueParser.{ValueParser}
use Rattle.clap.specs.declared.error.Error.{Error}
use Rattle.clap.specs.declared.error.kind.ErrorKind.TheVariants.{OutOfMemory}
use Rattle.clap.proofs.OnLiterals.{clap_on_literals}
use Rattle.ls_command_line.specs.Words.{asked_by, if_empty, line}
use Rattle.ls_command_line.specs.declared.words.CommandLine.{CommandLine}
use Rattle.ls_command_line.proofs.words.read_words.Goals as goal

is_read : (p : ValueParser) → is_simple (line p) ≡ true
unfolding clap_on_literals
is_read p = refl

is_free : (p : ValueParser) → is_simple_and_free (line p) ≡ true
unfolding clap_on_literals
is_free p = refl

-- an error that isn't want of memory comes only where some kind does
no_request : (kinds : Kinds) (e : Error) (q : CommandLine) →
    HasKind kinds e →
    (kind_of e ≡ OutOfMemory → ⊥) →
    if_empty kinds q ≡ None
no_request [] e q (inl m) other = absurd (other m)
no_request [] e q (inr x) other = absurd x
no_request (k ∷ ks) e q h other = refl

pub returns-in_default : goal.returns-in_default
returns-in_default c =
    let p = c.in-Ok.ensures in
    let fails = c.in-Err-try_get_matches_from.ensures.kinds (ap is_simple_and_free p.2 ∙ is_free p.0) in
    let none = no_request _ c.in-Err-try_get_matches_from.error
    (asked_by (subcommand_of (line p.0) (map string_bytes c.args.words.now))) fails
    (λ e. c.in_default.not-OutOfMemory (c.kind.ensures ∙ e)) in (
      p.0,
      p.1,
      ap
          (λ (a : App). if_empty (fault_of a (map string_bytes c.args.words.now))
          (asked_by (subcommand_of (line p.0) (map string_bytes c.args.words.now)))) (sym p.2) ∙ none,
    )

pub returns : goal.returns
returns c =
    let p = c.in-Ok.ensures in
    let words = map string_bytes c.args.words.now in
    let empty : fault_of (line p.0) words ≡ [] = ap (λ (a : App). fault_of a words) (sym p.2) ∙
    c.in-Ok-try_get_matches_from.ensures.kinds (ap is_simple_and_free p.2 ∙ is_free p.0) in
    let same : c.chosen.result ≡ asked_by (subcommand_of (line p.0) words) =
    c.chosen.ensures ∙ ap asked_by ((c.in-Ok-try_get_matches_from.ensures.matches (ap is_simple p.2 ∙ is_read p.0)).1 ∙
    ap (λ (a : App). subcommand_of a words) p.2) in
    (p.0, p.1, rw empty (ap Some (sym same)))
