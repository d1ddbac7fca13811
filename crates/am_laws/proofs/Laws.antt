-- The laws of the post office, all together.
use Rattle.std.proofs.Common.{List}
use Rattle.am_office_entries.specs.declared.Entry.{Entry}
use Rattle.am_model.specs.Layout.{Layout, IsLawful}
use Rattle.am_model.specs.History.{IsHistory}
use Rattle.am_model.specs.PostOffice.{PostOffice}
use Rattle.am_laws.proofs.Asked.{accepted_once}
use Rattle.am_laws.proofs.Delivered.{put_and_run_once, tags_match}
use Rattle.am_laws.proofs.Credited.{one_reply_per_run}
use Rattle.am_laws.proofs.Balance.{unknown_once, bounces_bounded}
use Rattle.am_laws.proofs.Returned.{returned_never_ran}
use Rattle.am_laws.proofs.Notices.{one_zero}
use Rattle.am_laws.proofs.Law.{credits_hold}

pub post_office : (layout : Layout) (journal : List Entry) → IsLawful layout → IsHistory layout journal → PostOffice layout journal
post_office layout journal lawful h =
    record {
      acceptance = accepted_once layout journal h;
      delivery = put_and_run_once layout journal h;
      tags = tags_match layout journal h;
      return = returned_never_ran layout journal h;
      unknown = unknown_once layout journal h;
      replies = one_reply_per_run layout journal h;
      credits = credits_hold layout journal lawful h;
      notices = one_zero layout journal h;
      bounces = bounces_bounded layout journal h;
    }
