use Rattle.std.proofs.Common.{◌≡◌, ◌∙◌, sym, ◌++◌, ◌∷◌, [], arith}
use Rattle.list_report.proofs.ListReportLemmas.{at-place}
use Rattle.list_report.proofs.TellingLemmas.{notices-more}
use Rattle.list_report.proofs.telling.notices_between.Goals as goal

pub loop-i-preserved : goal.loop-i-preserved
loop-i-preserved c =
    let l = c.args.listed.now in
    let i = c.loop-i.i in
    let old = c.loop-i.notices.items in
    let d = at-place l.listing i (omega (arith, c.requires.place, c.loop-i-test.true, c.loop-i.auto.i-end)) in
    let pushed : c.push.new.self.items ≡ old ++ c.notice_at.result ∷ [] = c.in-Ok.ensures.items in
    pushed ∙ (λ j. c.loop-i.invariant j ++ c.notice_at.ensures d.0 d.1 j ∷ []) ∙ sym (notices-more l.quotient l.dim c.args.first i l.listing d.0 c.loop-i.auto.i d.1)
