-- Why a line has no answer.
use Rattle.reading.specs.declared.unreadable.ReadError.{ReadError}
use Rattle.reading.specs.declared.unreadable.ReadError.TheVariants as read
use Rattle.stage.specs.declared.IssueError.{IssueError}
use Rattle.stage.specs.declared.IssueError.TheVariants as issue
use Rattle.shows.specs.declared.answers.Refused.TheVariants.{Unreadable, Issue}
use Rattle.shows.specs.declared.answers.PlayError.{PlayError}
use Rattle.shows.specs.declared.answers.PlayError.TheVariants.{Refused, Memory}

-- a command that is not issued: refused, or want of memory
abbrev pub issue_failure : IssueError → PlayError
issue_failure (issue.Refused e) = Refused (Issue e)
issue_failure (issue.Memory e) = Memory e

-- a line that was not read: it can't be, or want of memory
abbrev pub read_failure : ReadError → PlayError
read_failure (read.Unreadable r) = Refused (Unreadable r)
read_failure (read.Memory e) = Memory e
