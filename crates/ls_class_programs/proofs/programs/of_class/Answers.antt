-- Why `of_class` in src/programs.rt keeps its clause `refused`.

use Rattle.std.proofs.Common.{◌≡◌, ◌∙◌, ap, arith, length, map, sym}
use Rattle.std.specs.Prelude.{option_map, string_bytes}
use Rattle.std.proofs.lemmas.Bool.{eq-eqb, true≢false}
use Rattle.std.specs.Vec.{vec_len}
use Rattle.std.proofs.lemmas.Result.{err_from_is_err_and}
use Rattle.ls_items.specs.Cutting.{plain_text}
use Rattle.ls_tree.specs.Views.{bare_class}
use Rattle.ls_class_programs.specs.ClassPrograms.{own_calls}
use Rattle.ls_class_programs.specs.Written.{or_those}
use Rattle.ls_class_programs.proofs.Refused.{family_fails}
use Rattle.ls_class_programs.proofs.programs.of_class.Goals as goal

pub returns-in_err-family-clause-refused : goal.returns-in_err-family-clause-refused
returns-in_err-family-clause-refused c =
    let p = err_from_is_err_and c.from_residual-in_err-family.result c.from_residual-in_err-family.ensures.1 in
    let menu = option_map plain_text c.args.menu in
    let ms = c.in_ok-makings.makings.items in
    let ss = c.in_ok-setup.setup.items in
    let ts = c.in_ok-threads.threads.items in
    let size : vec_len c.in_ok-makings.makings ≡ length ms = omega arith in
    let one : c.len.result ≡ length ms = omega arith in
    let two : c.len-2.result ≡ length ss = omega arith in
    let three : c.len-3.result ≡ length ts = omega arith in
    rw (p.1, p.2) (family_fails c.args.choosing menu (bare_class c.args.class.now) c.in_err-family.field-0.0 ms ss ts _
    (record {
      sizes = λ i. record { makings = one i; setup = two i; threads = three i };
      some = λ none. true≢false (sym (eq-eqb (vec_len c.in_ok-makings.makings) 0 (size ∙ none)) ∙
          sym c.is_empty.ensures ∙ c.if-is_empty.false);
      made = c.in_ok-makings.ensures.makings;
      thread = c.in_ok-threads.ensures.calls;
      own = c.in_ok-setup.ensures ∙
          ap (λ l. or_those (own_calls menu) (map string_bytes l)) c.as_slice.ensures.value;
    })
    c.in_err-family.ensures.no_calls c.in_err-family.ensures.bad c.in_err-family.ensures.many)
