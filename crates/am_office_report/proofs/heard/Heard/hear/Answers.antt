use Rattle.am_office_report.proofs.Telling.{hears}
use Rattle.am_office_report.proofs.heard.Heard.hear.Goals as goal

pub returns : goal.returns
returns c = λ past h.
    hears c.put_news.result c.args.self.now _ past c.args.entry.now c.accepted_in.result c.news_in.result c.accepted_in.ensures c.news_in.ensures h
    c.in_ok-accept_of.ensures c.put_news.ensures
