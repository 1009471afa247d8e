-- Why `place_word` in src/kept.rt keeps its clause `kept`.

use Rattle.std.proofs.Common.{ap, length, refl}
use Rattle.ls_java_output.proofs.LineLemmas.{kept_word}
use Rattle.ls_java_output.proofs.kept.place_word.Goals as goal

pub returns-clause-kept : goal.returns-clause-kept
returns-clause-kept c =
    let pushed = c.in_ok-push.ensures in
    kept_word c.args.source.text.now (length c.args.source.tokens.now) c.args.page.now c.push.new.page _ c.args.word.now
    (record {
      start = length c.as_bytes-start.result.now;
      end = length c.as_bytes-end.result.now;
      token = c.args.origin.token;
      at = c.args.origin.at;
      until = c.args.origin.until;
      own = c.args.origin.own;
      goes = c.args.origin.goes;
    })
    c.requires.kept pushed.kept pushed.text (ap (λ v. v.items) pushed.places) pushed.here
    (ap length c.as_bytes-start.ensures.value) (ap length c.as_bytes-end.ensures.value) c.requires.token c.requires.line
    refl refl c.in_ok-push-2.ensures.items refl
