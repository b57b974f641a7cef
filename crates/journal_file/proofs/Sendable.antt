-- A file may go to another thread, since nothing that it owns is bound to one.
use denote.Param.Send.{IsSend, sendable, owning_send, struct_send, recorded_send}
use denote.Struct.Declared.{shape}
use Rattle.std.proofs.Crossing.{crosses}
use Rattle.std.proofs.fs.File.TheSendSync as file
use Rattle.journal_file.specs.contracts.history.History as History
use Rattle.journal_file.specs.contracts.device.FileDevice as FileDevice

history_send : IsSend History.the_row
history_send = owning_send History.the_type tt (λ d. tt) (λ k x w. tt)

pub device_send : IsSend FileDevice.the_row
device_send =
    recorded_send (FileDevice.the_field).row _ _ (FileDevice.the_type).to_one
    (struct_send (shape FileDevice.the_type) (
      file.the_field_send,
      (
        search (sendable, crosses) depth 20,
        (search (sendable, crosses), (search (sendable, crosses), (history_send, tt))),
      ),
    ))
