-- Why `place_of_call` in src/placing.rt keeps its contract.

use Rattle.std.proofs.Common.{◌≡◌, ◌∙◌, ◌<◌, ℕ, Bor, List, Option, Some, ap, get_or, length, map, refl, subst, sym}
use Rattle.std.specs.Prelude.{IfSome, is_some, option_map, slice_get}
use Rattle.std.proofs.lemmas.Option.{slice_get-map, slice_get_read}
use borrow.Author.Tests.{ltb-true}
use Rattle.std.proofs.lemmas.Result.{IfOk-weaker}
use Rattle.ls_lexer.specs.Lexemes.{lexemes}
use Rattle.ls_tree.specs.FileView.{bare_file}
use Rattle.ls_tree.specs.PlacedStatements.{placed_class, placed_file}
use Rattle.ls_tree.specs.Views.{bare_class}
use Rattle.ls_tree.specs.declared.tree.Class.{Class}
use Rattle.ls_parser_spelling.specs.Spelling.{spell}
use Rattle.ls_class_programs.specs.Chosen.{chosen}
use Rattle.ls_class_programs.proofs.Refused.{same_tokens}
use Rattle.ls_class_programs.proofs.placing.place_of_call.Goals as goal

at_placed : (all : List Class) (at : ℕ) (c : Class) → slice_get all at ≡ Some c →
    slice_get (map placed_class all) at ≡ Some (placed_class c)
at_placed all at c is = slice_get-map placed_class all at ∙ ap (option_map placed_class) is

pub returns : goal.returns
returns c =
    let f = c.in-Ok.file in
    let o = c.args.choosing in
    let tokens = ap lexemes c.as_slice.ensures.value ∙
    same_tokens (bare_file f) c.args.classes.now (lexemes c.in-Ok-lex.tokens.items) c.in-Ok.ensures.found
    c.in-Ok-lex.ensures.read in
    let all = c.classes-all.result.now in
    let at = c.in-Some.at in
    let class = c.in-Some-get.class in
    let within : at < length all =
    ltb-true at (length all) (sym c.get.ensures.lookup.0 ∙ ap is_some c.in-Some-get.is) in
    let found : class.now ≡ get_or all at class.now =
    subst (λ (o : Option (Bor Class)). IfSome o (λ x. x.now ≡ get_or all at x.now)) c.in-Some-get.is
    c.get.ensures.lookup.1 in
    let there : slice_get all at ≡ Some class.now = slice_get_read all (length all) at class.now refl within found in
    IfOk-weaker c.place_in.result _ _
    (λ span is. record {
      file = placed_file f;
      is_file = c.in-Ok.ensures.file;
      tree = bare_file f;
      spelled = c.in-Ok.ensures.found;
      at = at;
      chosen = sym (c.in-Some.ensures ∙
          ap (λ l. chosen o.class l (map bare_class all)) tokens ∙
          ap (λ l. chosen o.class (spell (bare_file f)) (map bare_class l)) c.classes-all.ensures);
      class = placed_class class.now;
      there = ap (λ l. slice_get (map placed_class l) at) (sym c.classes-all.ensures) ∙
          at_placed all at class.now there;
      is = is;
    }) c.place_in.ensures
