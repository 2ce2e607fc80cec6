use Rattle.std.proofs.Common.{◌≤◌, subst, ap, Err}
use Rattle.list_report.proofs.ClosingLemmas.{order-few, few-fixes, many-fixes, wide-fixes, wide-images, are-directions}
use Rattle.list_report.proofs.closing.listed_directions.Goals as goal

pub listing_of-requires-clause-order : goal.listing_of-requires-clause-order
listing_of-requires-clause-order g c = order-few c.args.formed.now c.requires (subst (λ n. n ≤ 6144) c.order-order.ensures.value c.order-order.ensures.few)

pub returns-in-Ok : goal.returns-in-Ok
returns-in-Ok g c =
    let e = c.in-Ok.ensures in
    let x = c.args.formed.now in
    (few-fixes x c.subspace_limit-limit.result c.subspace_limit-limit.ensures.value e.few, are-directions x c.direction_order-order.result c.direction_order-order.ensures c.in-Ok.listing e.listing e.forms)

pub returns-in-Err-TooManySubspaces : goal.returns-in-Err-TooManySubspaces
returns-in-Err-TooManySubspaces g c =
    let e = c.in-Err-TooManySubspaces in
    many-fixes c.args.formed.now c.subspace_limit-limit.result c.subspace_limit-limit.ensures.value (e.ensures.many (ap Err e.field-0-is))

pub returns-in-Err-WideSubspace : goal.returns-in-Err-WideSubspace
returns-in-Err-WideSubspace g c = let e = c.in-Err-WideSubspace in wide-fixes c.args.formed.now (e.ensures.wide_subspace (ap Err e.field-0-is))

pub returns-in-Err-WideStabiliser : goal.returns-in-Err-WideStabiliser
returns-in-Err-WideStabiliser g c = let e = c.in-Err-WideStabiliser in wide-fixes c.args.formed.now (e.ensures.wide_stabiliser (ap Err e.field-0-is))

pub returns-in-Err-WideImage : goal.returns-in-Err-WideImage
returns-in-Err-WideImage g c =
    let e = c.in-Err-WideImage in
    let is = ap Err e.field-0-is in
    wide-images c.args.formed.now c.subspace_limit-limit.result c.subspace_limit-limit.ensures.value (e.ensures.few_image is) (e.ensures.wide_image is)
