-- Why `programs_of` in src/programs.rt keeps its clauses `refused` and `programs`.

use Rattle.std.proofs.Common.{◌∙◌, ap, inl, inr, map, sym}
use Rattle.std.specs.Prelude.{option_map}
use Rattle.std.proofs.lemmas.Result.{IfOk-weaker, err_from_is_err_and}
use Rattle.ls_lexer.specs.Lexemes.{lexemes}
use Rattle.ls_items.specs.Cutting.{plain_text}
use Rattle.ls_tree.specs.FileView.{bare_file}
use Rattle.ls_tree.specs.Views.{bare_class}
use Rattle.ls_parser_spelling.specs.Spelling.{spell}
use Rattle.ls_class_programs.specs.Chosen.{chosen}
use Rattle.ls_class_programs.specs.ClassPrograms.{NoValues, NotOne, OutOfMemory}
use Rattle.ls_class_programs.proofs.Refused.{choose, place_fails, same_tokens, text_fails}
use Rattle.ls_class_programs.proofs.programs.programs_of.Goals as goal

pub returns-then-are_bad_values-clause-refused : goal.returns-then-are_bad_values-clause-refused
returns-then-are_bad_values-clause-refused c = NoValues (inl (c.are_bad_values.ensures.0 c.if-are_bad_values.true))

pub returns-then-are_bad_integers-clause-refused : goal.returns-then-are_bad_integers-clause-refused
returns-then-are_bad_integers-clause-refused c =
    NoValues (inr (c.are_bad_integers.ensures.0 c.if-are_bad_integers.true))

pub returns-in_err-file-clause-refused : goal.returns-in_err-file-clause-refused
returns-in_err-file-clause-refused c =
    let p = err_from_is_err_and c.from_residual.result c.from_residual.ensures.1 in
    rw (p.1, p.2) (text_fails c.args.choosing c.args.classes.now (option_map plain_text c.args.menu)
    c.in_err-file.field-0.0 c.in_err-file.ensures.refused
    c.in_err-file.ensures.comes c.in_err-file.ensures.long)

pub returns-in_default-clause-refused : goal.returns-in_default-clause-refused
returns-in_default-clause-refused c = OutOfMemory

pub returns-clause-refused : goal.returns-clause-refused
returns-clause-refused c =
    let f = c.in_ok-file.file in
    let o = c.args.choosing in
    let tokens = ap lexemes c.as_slice.ensures.value ∙
    same_tokens (bare_file f) c.args.classes.now (lexemes c.in-Ok.tokens.items) c.in_ok-file.ensures.found
    c.in-Ok.ensures.read in
    NotOne (bare_file f) c.in_ok-file.ensures.found (sym (c.in-None.ensures ∙
    ap (λ l. chosen o.class l (map bare_class c.classes-all.result.now)) tokens ∙
    ap (λ l. chosen o.class (spell (bare_file f)) (map bare_class l)) c.classes-all.ensures))

pub returns-in-Some-clause-programs : goal.returns-in-Some-clause-programs
returns-in-Some-clause-programs c =
    let f = c.in_ok-file.file in
    let tokens = ap lexemes c.as_slice.ensures.value ∙
    same_tokens (bare_file f) c.args.classes.now (lexemes c.in-Ok.tokens.items) c.in_ok-file.ensures.found
    c.in-Ok.ensures.read in
    IfOk-weaker c.of_place.result _ _
    (λ p h. (
      h.0,
      choose c.args.choosing c.args.classes.now f c.classes-all.result.now
          (lexemes c.as_slice.result.now) c.in-Some.at h.0 c.in_ok-file.ensures.found c.classes-all.ensures tokens
          c.in-Some.ensures h.1,
      h.2,
    )) c.of_place.ensures.programs

pub returns-in-Some-clause-refused : goal.returns-in-Some-clause-refused
returns-in-Some-clause-refused c =
    let f = c.in_ok-file.file in
    let tokens = ap lexemes c.as_slice.ensures.value ∙
    same_tokens (bare_file f) c.args.classes.now (lexemes c.in-Ok.tokens.items) c.in_ok-file.ensures.found
    c.in-Ok.ensures.read in
    place_fails c.args.choosing c.args.classes.now (option_map plain_text c.args.menu)
    (map bare_class c.classes-all.result.now) c.in-Some.at
    c.of_place.result
    (λ k there. choose c.args.choosing c.args.classes.now f c.classes-all.result.now
    (lexemes c.as_slice.result.now) c.in-Some.at k c.in_ok-file.ensures.found c.classes-all.ensures tokens
    c.in-Some.ensures there) c.of_place.ensures.refused
