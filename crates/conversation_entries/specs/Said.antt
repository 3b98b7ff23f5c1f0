-- What is kept of a side, as the definitions have it.
use Rattle.conversation_entries.specs.declared.speaker.Speaker.{Speaker}
use Rattle.conversation_rules.specs.Speakers as rules

abbrev pub said : Speaker → rules.Speaker
said speaker = record { count = speaker.count; owed = speaker.owed; unsure_up_to = speaker.unsure_up_to; refusals = speaker.refusals; used = speaker.used; initialize = speaker.initialize; has_cancelled = speaker.has_cancelled; is_guessed = speaker.is_guessed; has_exited = speaker.has_exited; has_unreadable = speaker.has_unreadable; is_over = speaker.is_over; has_ended = speaker.has_ended }
