-- What commands are given.
use Rattle.std.specs.Prelude.{ℕ, List, Option}
use Rattle.as2_audit.specs.declared.findings.Mailbox.{Mailbox}
use Rattle.as2_commands.specs.declared.tasks.ServingWaits.{ServingWaits}

-- a document: from whom and to whom it goes, and the path of its file
pub record GivenSubmission : Type 0 where
  pub from : List ℕ
  pub to : List ℕ
  pub path : List ℕ

-- what is served: the address that is listened on, how many connections, the waits for a peer, and the moment of each, if it is given
pub record GivenServing : Type 0 where
  pub address : List ℕ
  pub count : ℕ
  pub waits : ServingWaits
  pub moment : Option ℕ

-- A station that runs: the address that is listened on, and the waits for a peer. Where they are given: the path at which it can be asked,
-- where receipts may be sent, and the moment of all that it answers.
pub record GivenOperating : Type 0 where
  pub address : List ℕ
  pub control : Option (List ℕ)
  pub waits : ServingWaits
  pub receipts_to : Option (List ℕ)
  pub moment : Option ℕ

-- which document is to be proved: its box and its number; and the folder that the files are made in
pub record GivenEvidence : Type 0 where
  pub mailbox : Mailbox
  pub number : ℕ
  pub folder : List ℕ
