use Rattle.std.proofs.Common.{◌≤◌, Option, None, Some, IfSome, Bor, List, arith}
use Rattle.jsl_model.specs.declared.element.Element.{Element}
use Rattle.walk_rules.specs.Counts.{count_of}
use Rattle.walk_rules.specs.declared.work_key.WorkKey.{WorkKey}
use Rattle.job_plans.specs.Spots.{IsListIn, IsElementIn, IsListBelow}
use Rattle.job_plans.proofs.runnable.+descending.Goals as goal

-- a list inside an element of a list below others is below them
below : (key : WorkKey) (elements list inner : List Element) (element : Element) → IsListBelow key elements list → IsElementIn key list element → IsListIn key element inner
    → IsListBelow key elements inner
below key elements list inner element one two three = ((three two.0).0, λ run found. one.1 run (two.1 run ((three two.0).1 run found)))

all-below : (key : WorkKey) (elements list : List Element) (element : Element) (inner : Option (Bor (List Element))) → IsListBelow key elements list → IsElementIn key list element
    → IfSome inner (λ l. IsListIn key element l.now) → IfSome inner (λ l. IsListBelow key elements l.now)
all-below key elements list element (Some inner) one two three = below key elements list inner.now element one two three
all-below key elements list element None one two three = three

pub list_with-requires : goal.list_with-requires
list_with-requires t c = omega (arith, c.if-most-eq0.false)

pub returns : goal.returns
returns t c = λ key once.
    let list = c.in_ok-list.ensures key once in
    let element = c.in_ok-element.ensures key list.0 in
    all-below key c.args.elements.now c.in_ok-list.list.now c.in_ok-element.element.now c.list_inside.result list element (c.list_inside.ensures key)
