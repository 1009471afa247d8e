-- Why `unmarked` in src/marks.rt keeps its contract and its loop `line`.

use Rattle.std.proofs.Common.{◌≡◌, ◌∙◌, ◌++◌, ◌∷◌, [], ap, sym, arith, rules, map, eqb, append-nil, append_assoc}
use Rattle.std.specs.Prelude.{string_bytes}
use Rattle.std.specs.List.{after_first}
use Rattle.std.proofs.lemmas.Str.Pattern.{split_once_first}
use Rattle.ls_items.specs.Parts.{lines_of, part_of}
use Rattle.ls_items.proofs.LineLemmas.{first_line, one_line}
use Rattle.ls_files.specs.Files.{unmarked, unmarked_line}
use Rattle.ls_files.proofs.FileLines.{unmarks_on}
use Rattle.ls_files.proofs.marks.unmarked.Goals as goal

pub loop-line-preserved : goal.loop-line-preserved
loop-line-preserved c =
    let rest = c.loop-line.rest.now in
    let line = c.in-Some.line.now in
    let after = c.in-Some.after.now in
    let out = string_bytes c.loop-line.out in
    let m = rw c.in-Some.is at
    (split_once_first 10 rest c.split_once.result c.split_once.ensures.cases (omega arith)) in
    let first : lines_of rest ≡ line ∷ lines_of after =
    first_line rest m.0 ∙ ap (λ x. x ∷ lines_of (after_first (λ b. eqb b 10) rest)) (sym m.1)
    ∙ ap (λ x. line ∷ lines_of x) (sym m.2) in
    let pushed : string_bytes c.push_str-in-Some.new.self ≡ (out ++ unmarked_line line) ++ 10 ∷ [] =
    c.in_ok-push_str-2.ensures.bytes
    ∙ ap (λ t. t ++ 10 ∷ []) (c.in_ok-push_str.ensures.bytes ∙ ap (λ t. out ++ t) c.unmarked_line.ensures) in
    record {
      rest_text = search rules;
      so_far = ap (λ t. t ++ unmarked after) pushed ∙ append_assoc (out ++ unmarked_line line) (10 ∷ [])
          (unmarked after)
          ∙ append_assoc out (unmarked_line line) (10 ∷ unmarked after)
          ∙ ap (λ t. out ++ t) (sym (unmarks_on rest line after first)) ∙ c.loop-line.invariant.so_far;
    }

pub returns : goal.returns
returns c =
    let rest = c.loop-line.rest.now in
    let out = string_bytes c.loop-line.out in
    let m = rw c.in_default.is at
    (split_once_first 10 rest c.split_once.result c.split_once.ensures.cases (omega arith)) in
    let last : unmarked rest ≡ unmarked_line rest =
    ap (λ ls. part_of (map unmarked_line ls)) (one_line rest m) ∙ append-nil (unmarked_line rest) in
    c.in_ok-push_str-3.ensures.bytes ∙ ap (λ t. out ++ t) (c.unmarked_line-2.ensures ∙ sym last)
    ∙ c.loop-line.invariant.so_far
