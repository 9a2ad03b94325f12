mod FlatLaws
