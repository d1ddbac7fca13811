-- The answer that a reply of the code stands for.
use Rattle.am_main_answer.specs.declared.replies.Reply.{Reply}
use Rattle.am_main_answer.specs.declared.replies.Reply.TheVariants as Replies
use Rattle.am_main_lines.specs.Lines.{Answer, answer_in}

abbrev pub answer_of : Reply → Answer
answer_of (Replies.Output output) = answer_in output
answer_of (Replies.Line status text) = record { status = status; text = text.now }
