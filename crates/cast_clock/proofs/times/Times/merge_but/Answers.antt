use Rattle.std.proofs.Common.{◌≡◌, IsTrue, ◌∙◌, sym, subst, rules}
use Rattle.cast_clock.specs.Times.{is_time}
use Rattle.cast_clock.specs.News.{news, put_all}
use Rattle.cast_clock.proofs.News.{all_fit, has_room-join, news_join, is_time-put_all}
use Rattle.cast_clock.proofs.Valid.{sorted_stamp}
use Rattle.cast_clock.proofs.times.Times.merge_but.Goals as goal

pub returns-in_err-news-clause-too_many : goal.returns-in_err-news-clause-too_many
returns-in_err-news-clause-too_many c = λ failed.
    let mine = c.args.self.now in
    let theirs = c.args.stamp.now in
    let valid : IsTrue (is_time mine) = subst (λ t. IsTrue (is_time t)) c.self.view_is c.self.invariant in
    sym (has_room-join mine theirs valid (sorted_stamp theirs c.clocks.ensures.valid))
    ∙ (λ i. all_fit (sym (c.deref.ensures.value ∙ c.self.view_is) i) (sym c.clocks.ensures.value i))
    ∙ c.in_err-news.ensures.too_many (search rules)

pub returns-clause-fits : goal.returns-clause-fits
returns-clause-fits c =
    let mine = c.args.self.now in
    let theirs = c.args.stamp.now in
    let valid : IsTrue (is_time mine) = subst (λ t. IsTrue (is_time t)) c.self.view_is c.self.invariant in
    sym (has_room-join mine theirs valid (sorted_stamp theirs c.clocks.ensures.valid))
    ∙ (λ i. all_fit (sym (c.deref.ensures.value ∙ c.self.view_is) i) (sym c.clocks.ensures.value i))
    ∙ c.in_ok-news.ensures.fits

pub invariant_of-self-2 : goal.invariant_of-self-2
invariant_of-self-2 c =
    rw c.in_ok-put_all.ensures.ok
    (is_time-put_all c.in_ok-news.news.items c.self.inside.clocks.items c.self.invariant c.in_ok-news.ensures.valid)

pub returns-clause-ok : goal.returns-clause-ok
returns-clause-ok c =
    let mine = c.args.self.now in
    let theirs = c.args.stamp.now in
    let valid : IsTrue (is_time mine) = subst (λ t. IsTrue (is_time t)) c.self.view_is c.self.invariant in
    let made : c.in_ok-news.news.items ≡ news mine theirs =
    c.in_ok-news.ensures.value ∙ (λ i. news ((c.deref.ensures.value ∙ c.self.view_is) i) (c.clocks.ensures.value i)) in
    c.in_ok-put_all.ensures.ok
    ∙ (λ i. put_all (made i) (c.self.view_is i))
    ∙ news_join mine theirs valid (sorted_stamp theirs c.clocks.ensures.valid)
