use Rattle.std.proofs.Common.{◌≡◌, ◌∙◌, ap, sym, subst, Some, []}
use Rattle.script_lines.specs.Tape.{nothing_past, told_in_memory, held_by}
use Rattle.script_engine.specs.Ran.{Ran, RanInMemory}
use Rattle.script_engine.proofs.InMemory.{ran_in_memory, is_long}
use Rattle.script_engine.proofs.run.answer_script.Goals as goal

pub returns-clause-ran : goal.returns-clause-ran
returns-clause-ran g c =
    let p = c.new-reader.result.tape.past in
    let p' = c.run_script-outcome.new.reader.tape.past in
    let q = c.new-writer.result.tape.past in
    let q' = c.run_script-outcome.new.writer.tape.past in
    let rest = c.run_script-outcome.new.reader.rest.now in
    let text = c.run_script-outcome.new.writer.inner.items in
    let read : c.new-reader.result.rest.now ≡ c.args.script.now = c.new-reader.ensures.rest in
    let none : c.new-writer.result.inner.items ≡ [] = ap (λ v. v.items) c.new-writer.ensures.device ∙ c.new.ensures.items in
    let whole : c.into_inner.result.items ≡ text = ap (λ v. v.items) c.into_inner.ensures in
    let R = subst (λ b. Ran (told_in_memory p b) (told_in_memory p' rest) (held_by q (Some c.new-writer.result.inner.items)) (held_by q' (Some text)) c.run_script-outcome.result) read c.run_script-outcome.ensures in
    let R' = subst (λ b. Ran (told_in_memory p c.args.script.now) (told_in_memory p' rest) (held_by q (Some b)) (held_by q' (Some text)) c.run_script-outcome.result) none R in
    subst (λ b. RanInMemory c.args.script.now b c.run_script-outcome.result) (sym whole) (ran_in_memory p p' q q' c.args.script.now rest text c.run_script-outcome.result R')

pub returns-clause-long : goal.returns-clause-long
returns-clause-long g c fault =
    let p = c.new-reader.result.tape.past in
    let p' = c.run_script-outcome.new.reader.tape.past in
    let q = c.new-writer.result.tape.past in
    let w = held_by q (Some c.new-writer.result.inner.items) in
    let w' = held_by c.run_script-outcome.new.writer.tape.past (Some c.run_script-outcome.new.writer.inner.items) in
    let rest = c.run_script-outcome.new.reader.rest.now in
    let R = subst (λ b. Ran (told_in_memory p b) (told_in_memory p' rest) w w' c.run_script-outcome.result) c.new-reader.ensures.rest c.run_script-outcome.ensures in
    let R' = subst (λ b. Ran (told_in_memory b c.args.script.now) (told_in_memory p' rest) w w' c.run_script-outcome.result) c.new-reader.ensures.past R in
    let R'' = subst (λ b. Ran (told_in_memory nothing_past c.args.script.now) (told_in_memory p' rest) w w' b) fault R' in
    is_long p' w w' c.args.script.now rest c.run_script-outcome.new.reader.few R''
