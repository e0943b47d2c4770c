use Rattle.std.proofs.Common.{◌≡◌, ◌≤◌, Option, None, Some, IfSome, Bor, List, ap, sym, ◌∙◌, subst}
use Rattle.std.specs.Option.{option_map}
use Rattle.jsl_model.specs.declared.element.Body.{Body}
use Rattle.jsl_model.specs.declared.element.Element.{Element}
use Rattle.walk_rules.specs.Counts.{count_of}
use Rattle.job_plans.specs.Runnables.{leaves, leaves_in_body, all_leaves, run_with}
use Rattle.job_plans.specs.Spots.{IsElementIn, IsListBelow}
use Rattle.walk_rules.specs.declared.work_key.WorkKey.{WorkKey}
use Rattle.job_plans.proofs.Once.{ids-once}
use Rattle.job_plans.proofs.runnable.body_at.Goals as goal

-- what is found in an element of a list below others is found in them
found-below : (key : WorkKey) (elements list : List Element) (element : Element) (found : Option (Bor Body)) → IsListBelow key elements list → IsElementIn key list element
    → option_map (λ (body : Bor Body). leaves_in_body body.now) found ≡ run_with (leaves element) key
    → IfSome found (λ body. run_with (all_leaves elements) key ≡ Some (leaves_in_body body.now))
found-below key elements list element (Some body) one two is = one.1 (leaves_in_body body.now) (two.1 (leaves_in_body body.now) (sym is))
found-below key elements list element None one two is = tt

pub returns : goal.returns
returns c =
    let key = c.args.key.now in
    let once : count_of key.element c.elements.result.now ≤ 1 =
    subst (λ es. count_of key.element es ≤ 1) (sym c.elements.ensures.same) (ids-once c.args.job.now c.elements.ensures.checked key.element) in
    let list : IsListBelow key c.args.job.now.elements c.in_ok-list.list.now =
    subst (λ es. IsListBelow key es c.in_ok-list.list.now) c.elements.ensures.same (c.in_ok-list.ensures key once) in
    found-below key c.args.job.now.elements c.in_ok-list.list.now c.in_ok-element.element.now c.find_inside.result list (c.in_ok-element.ensures key list.0) c.find_inside.ensures
