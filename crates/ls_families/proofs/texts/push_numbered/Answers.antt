-- Why `push_numbered` in src/texts.rt keeps its contract and its loop `front`.

use Rattle.std.proofs.Common.{◌∙◌, ◌++◌, ap, append_assoc, rules, sym, string_bytes}
use Rattle.ls_families.specs.Texts.{number_of, numbered}
use Rattle.ls_families.proofs.Marks.{first_cut, uncut}
use Rattle.ls_families.proofs.texts.push_numbered.Goals as goal

pub loop-front-smaller : goal.loop-front-smaller
loop-front-smaller c =
    (first_cut c.args.i c.loop-front.left.now c.in-Some.front.now c.in-Some.rest.now (sym c.in-Some.ensures)).1

pub loop-front-preserved : goal.loop-front-preserved
loop-front-preserved c =
    let i = c.args.i in
    let rest = c.in-Some.rest.now in
    let had = string_bytes c.loop-front.out in
    let front = c.in-Some.front.now in
    let first = first_cut i c.loop-front.left.now front rest (sym c.in-Some.ensures) in
    let one = c.in_ok-push_str.ensures.bytes in
    let two = c.in_ok-push_str-2.ensures.bytes in
    record {
      text = search rules;
      done = ap (λ l. l ++ numbered i rest) (two ∙ ap (λ l. l ++ c.number_of.result.now) one ∙
          ap (λ l. (had ++ front) ++ l) c.number_of.ensures) ∙ append_assoc (had ++ front) (number_of i)
          (numbered i rest) ∙
          append_assoc had front (number_of i ++ numbered i rest) ∙ ap (λ l. had ++ l) (sym first.0) ∙
          c.loop-front.invariant.done;
    }

pub returns : goal.returns
returns c =
    c.in_ok-push_str-3.ensures.bytes ∙ ap (λ l. string_bytes c.loop-front.out ++ l)
    (sym (uncut c.args.i c.loop-front.left.now (sym c.in_default.ensures))) ∙ c.loop-front.invariant.done
