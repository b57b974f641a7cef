-- Private: what is noted of a call.
use Rattle.journal_file.specs.Files.{NotedCall}
use Rattle.journal_file.specs.declared.history.Call.{Call}

abbrev pub noted_of : Call → NotedCall
noted_of call = record { kind = call.kind; at = call.at; bytes = call.bytes.now; is_done = call.is_done }
