use Rattle.std.proofs.Common.{◌≡◌, ◌+◌, ◌∙◌, sym, refl, arith}
use Rattle.iso_watch.specs.declared.notice.Notice.{Notice}
use Rattle.iso_watch.proofs.ToldLemmas.{after-none, none-zero, none-below, told-more, ended}
use Rattle.iso_watch.proofs.watchers.tell_page.Goals as goal

-- what stands where no notice is
abbrev no_notice : Notice
no_notice = record { number = 0; dim = 0; order = 0; index = 0 }

pub loop-notice-init : goal.loop-notice-init
loop-notice-init g c = record { count = refl; told = sym (after-none _); none = none-zero _ c.args.notices.now c.args.watchers.now }

pub loop-notice-preserved : goal.loop-notice-preserved
loop-notice-preserved g c =
    let told = told-more c.args.notices.now c.loop-notice.notice-index no_notice _ _ _ (omega arith) c.loop-notice.invariant.told c.tell_and_ask.ensures.told in
    record {
      count = omega arith;
      told = told;
      none = none-below c.args.notices.now _ _ c.loop-notice.notice-index c.loop-notice.invariant.none told (sym c.tell_and_ask.ensures.enough ∙ c.if-tell_and_ask.false);
    }

pub returns-then-tell_and_ask-clause-ends : goal.returns-then-tell_and_ask-clause-ends
returns-then-tell_and_ask-clause-ends g c =
    let i = c.loop-notice.notice-index in
    let told = told-more c.args.notices.now i no_notice _ _ _ (omega arith) c.loop-notice.invariant.told c.tell_and_ask.ensures.told in
    ended c.args.notices.now _ _ i (c.loop-notice.count + 1) (omega arith) (omega arith) c.loop-notice.invariant.none told (sym c.tell_and_ask.ensures.enough ∙ c.if-tell_and_ask.true)

pub returns-then-tell_and_ask-clause-told : goal.returns-then-tell_and_ask-clause-told
returns-then-tell_and_ask-clause-told g c =
    let i = c.loop-notice.notice-index in
    let told = told-more c.args.notices.now i no_notice _ _ _ (omega arith) c.loop-notice.invariant.told c.tell_and_ask.ensures.told in
    let count : c.loop-notice.count + 1 ≡ i + 1 = omega arith in
    rw count told
