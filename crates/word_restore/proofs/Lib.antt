pub mod RestoreLaws
