-- How such a call's answer follows from its stages.
pub mod Replies
