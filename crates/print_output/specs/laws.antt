pub mod PieceLaws
pub mod RestLaws
