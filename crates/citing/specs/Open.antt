-- An open branch.
--
-- branch_of o     what the open branch o holds: its facts and links in order of arrival, and how many worlds it has
use Rattle.trail.specs.Trails.{entries_of}
use Rattle.rules.specs.Branches.{Branch, branch}
use Rattle.citing.specs.declared.branch.OpenBranch.{OpenBranch}

abbrev pub branch_of : OpenBranch → Branch
branch_of o = branch (entries_of o.facts) (entries_of o.links) o.worlds
