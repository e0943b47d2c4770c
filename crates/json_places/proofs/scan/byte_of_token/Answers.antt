use Rattle.std.proofs.Common.{◌≡◌, ◌<◌, length, take, get_or, Bool, cond, refl, sym, ap, ◌∙◌, arith}
use Rattle.json.specs.Lex.{between}
use Rattle.json_places.specs.Scan.{mode_of, class_of, next_mode, begun, mode_after}
use Rattle.json_places.proofs.Scanning.{before_more, mode_before_more, none_before, begun_same}
use Rattle.json_places.proofs.scan.byte_of_token.Goals as goal
use Rattle.json_places.proofs.scan.byte_of_token.Goals.{then-begins_token+else-left-eq0, else-begins_token}

pub loop-at-init : goal.loop-at-init
loop-at-init c = (omega (arith, none_before c.args.text.now), refl)

pub returns-then-left-eq0-clause-begins : goal.returns-then-left-eq0-clause-begins
returns-then-left-eq0-clause-begins c =
    let text = c.args.text.now in
    let i = c.loop-at.at in
    let x = get_or text i 0 in
    let ends : i < length text = c.loop-at-test.true in
    let one : 1 ≡ begun (mode_of c.loop-at.mode) (class_of c.class_of-kind.result) x = ap (λ (b : Bool). cond b 1 0) (sym c.if-begins_token.true) ∙ c.begins_token.ensures in
    let here = begun_same _ _ _ _ x 1 c.loop-at.invariant.1 c.class_of-kind.ensures one in
    record {
      within = ends;
      before = omega (arith, c.loop-at.invariant.0);
      with = omega (arith, before_more text i ends, here, c.loop-at.invariant.0);
    }

pub loop-at-preserved : goal.loop-at-preserved
loop-at-preserved c =
    let text = c.args.text.now in
    let i = c.loop-at.at in
    let x = get_or text i 0 in
    let ends : i < length text = c.loop-at-test.true in
    let more = before_more text i ends in
    let mode = c.next_mode-mode.ensures ∙ ap (λ m. next_mode m (class_of c.class_of-kind.result)) c.loop-at.invariant.1 ∙ ap (next_mode (mode_after between (take i text))) c.class_of-kind.ensures ∙ sym (mode_before_more text i ends) in
    elim c.if-begins_token.branch [
      | then-begins_token+else-left-eq0 w ↦
          let one : 1 ≡ begun (mode_of c.loop-at.mode) (class_of c.class_of-kind.result) x = ap (λ (b : Bool). cond b 1 0) (sym w.if-begins_token.true) ∙ c.begins_token.ensures in
          let here = begun_same _ _ _ _ x 1 c.loop-at.invariant.1 c.class_of-kind.ensures one in
          (omega (arith, more, here, c.loop-at.invariant.0), mode)
      | else-begins_token w ↦
          let none : 0 ≡ begun (mode_of c.loop-at.mode) (class_of c.class_of-kind.result) x = ap (λ (b : Bool). cond b 1 0) (sym w.if-begins_token.false) ∙ c.begins_token.ensures in
          let here = begun_same _ _ _ _ x 0 c.loop-at.invariant.1 c.class_of-kind.ensures none in
          (omega (arith, more, here, c.loop-at.invariant.0), mode)
    ]
